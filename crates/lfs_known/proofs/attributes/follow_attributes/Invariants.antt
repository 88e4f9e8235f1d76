use Rattle.std.proofs.Common.{take}
use Rattle.lfs_types.specs.Changes.{applied}
use Rattle.lfs_types.specs.Tree.{Content}
use Rattle.lfs_known.specs.Shown.{AreShown}
use Rattle.lfs_known.proofs.attributes.follow_attributes.Given as goal

-- what is known is shown of the content with the changes so far
abbrev pub invariant-loop-change : goal.invariant-loop-change
invariant-loop-change l = (c : Content) → AreShown l.fn.cache c
    → AreShown l.cache (applied (take l.change-index l.changes) c)
