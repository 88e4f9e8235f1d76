use Rattle.std.proofs.Common.{ℕ, ◌<◌}
use Rattle.lfs_segwrite.specs.Giving.{LeavesFinishable}
use Rattle.lfs_segwrite.proofs.giving.leaves_some.Given as goal

-- none so far can be
abbrev pub invariant-loop-segment : goal.invariant-loop-segment
invariant-loop-segment l = (s : ℕ) → s < l.segment → LeavesFinishable l.spare l.changes l.blocks l.parts s → ⊥
