use Rattle.std.proofs.Common.{take}
use Rattle.lfs_types.specs.Changes.{applied}
use Rattle.lfs_types.specs.Tree.{Content}
use Rattle.lfs_known.specs.Spots.{ArePlaced}
use Rattle.lfs_known.proofs.name_changes.follow_all.Given as goal

-- what is known is so of the content with the changes so far
abbrev pub invariant-loop-change : goal.invariant-loop-change
invariant-loop-change l = (c : Content) → ArePlaced l.fn.table c
    → ArePlaced l.table (applied (take l.change-index l.changes) c)
