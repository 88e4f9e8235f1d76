use Rattle.std.proofs.Common.{ℕ, take}
use Rattle.std.specs.Prelude.{IsSome}
use Rattle.lfs_types.specs.Changes.{applied}
use Rattle.lfs_types.specs.Tree.{Content}
use Rattle.lfs_known.specs.Says.{says}
use Rattle.lfs_known.specs.Spots.{AreSized}
use Rattle.lfs_known.proofs.name_sizes.follow_sizes.Given as goal

-- sizes are those of the content with the changes so far
abbrev pub invariant-loop-change : goal.invariant-loop-change
invariant-loop-change l = record {
  sized : (c : Content) → AreSized l.fn.whole c → AreSized l.whole (applied (take l.change-index l.changes) c);
  fewer : (d : ℕ) → IsSome (says l.whole d) → IsSome (says l.fn.whole d);
}
