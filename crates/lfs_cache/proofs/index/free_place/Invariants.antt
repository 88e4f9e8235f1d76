use Rattle.std.proofs.Common.{ℕ, ◌<◌, ◌≤◌, IsSome}
use Rattle.lfs_cache.specs.Index.{frame_at}
use Rattle.lfs_cache.proofs.index.free_place.Given as goal

abbrev pub invariant-loop-place : goal.invariant-loop-place
invariant-loop-place l = (p : ℕ) → l.start ≤ p → p < l.place → IsSome (frame_at l.places p)
