use Rattle.std.proofs.Common.{◌*◌}
use Rattle.lfs_fsck.specs.Names.{AreNames}
use Rattle.lfs_fsck.proofs.names.names.Given as goal

abbrev pub invariant-loop-segment : goal.invariant-loop-segment
invariant-loop-segment l = AreNames l.log.memory (l.segment * 64) l.names.items
