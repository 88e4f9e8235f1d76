use Rattle.std.proofs.Common.{◌≡◌, ◌≢◌, ℕ, ◌<◌, ◌≤◌, Some}
use Rattle.lfs_cache.specs.Index.{key_at, frame_at}
use Rattle.lfs_cache.proofs.index.Index.find.Given as goal

abbrev pub invariant-loop-place : goal.invariant-loop-place
invariant-loop-place l = (p f : ℕ) → l.start ≤ p → p < l.place → frame_at l.self-inside.places.items p ≡ Some f
    → key_at l.self-inside.keys.items f ≢ Some l.key
