use Rattle.std.proofs.Common.{◌≡◌, ℕ, ◌<◌, length, None}
use Rattle.lfs_cache.specs.Index.{frame_at}
use Rattle.lfs_cache.proofs.index.free_all.Given as goal

abbrev pub invariant-loop-place : goal.invariant-loop-place
invariant-loop-place l = record {
  ends : l.place-end ≡ length l.places.items;
  len : length l.places.items
      ≡ length l.fn.places.items;
  none : (p : ℕ) → p < l.place → frame_at l.places.items p ≡ None;
}
