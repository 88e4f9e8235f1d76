use Rattle.std.proofs.Common.{ℕ, ◌<◌}
use Rattle.lfs_segwrite.specs.Finishing.{IsFinishable}
use Rattle.lfs_segwrite.proofs.finishing.has_finishable.Given as goal

-- none so far can be
abbrev pub invariant-loop-segment : goal.invariant-loop-segment
invariant-loop-segment l = (s : ℕ) → s < l.segment → IsFinishable l.infos l.blocks l.parts s → ⊥
