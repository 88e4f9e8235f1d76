use Rattle.std.proofs.Common.{take}
use Rattle.lfs_types.specs.Changes.{applied}
use Rattle.lfs_types.specs.Tree.{Content}
use Rattle.lfs_known.specs.Full.{AreFull}
use Rattle.lfs_known.proofs.hint_changes.follow_hints.Given as goal

-- the hints are true of the content with the changes so far
abbrev pub invariant-loop-change : goal.invariant-loop-change
invariant-loop-change l = (c : Content) → AreFull l.fn.hints c
    → AreFull l.hints (applied (take l.change-index l.changes) c)
