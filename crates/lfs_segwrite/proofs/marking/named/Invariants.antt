use Rattle.std.proofs.Common.{◌≤◌, length, take}
use Rattle.lfs_parts.specs.Keys.{log_state}
use Rattle.lfs_segwrite.specs.Marking.{AreNamed}
use Rattle.lfs_segwrite.proofs.marking.named.Given as goal

abbrev pub invariant-loop-info : goal.invariant-loop-info
invariant-loop-info l = AreNamed (log_state l.parts) (take l.info-index l.marks) l.named
    × (length l.named ≤ l.info-index)
