use Rattle.std.proofs.Common.{ℕ, ◌<◌}
use Rattle.lfs_segwrite.specs.Gaining.{IsGainful}
use Rattle.lfs_segwrite.proofs.gaining.gainful.Given as goal

-- none so far is
abbrev pub invariant-loop-segment : goal.invariant-loop-segment
invariant-loop-segment l = (s : ℕ) → s < l.segment → IsGainful l.parts s → ⊥
