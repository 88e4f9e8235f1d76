-- The cache once all that waited was written: `keeps_cached`, for `sync`. No frame was given up, and none waits, so what
-- is held is clean.
use Rattle.std.proofs.Common.{◌≡◌, ℕ, List, is_some, sym, ap, ◌∙◌}
use Rattle.lfs_cache.specs.declared.key.Key.{Key}
use Rattle.lfs_cache.specs.Contents.{block_in, block_of, or_else}
use Rattle.lfs_parts.specs.declared.parts.Parts.{Parts}
use Rattle.lfs_segwrite.specs.Applying.{WritesWaiting}
use Rattle.lfs_logstore.specs.Frames.{KeepsCached}

pub keeps_cached : (old new : Parts) → WritesWaiting old new → KeepsCached old new
keeps_cached old new w =
    let only : (key : Key) → block_of key new.cache ≡ block_in key new.cache.lru =
    λ key. ap (λ (es : List (Key × List ℕ)). or_else (block_in key es) (block_in key new.cache.lru)) w.flushed.no_frame
    in
    record {
      clean = λ key held. ap is_some (sym (only key)) ∙ w.held.keys key ∙ held;
      bytes = λ key block far held. sym (only key) ∙ w.held.bytes key far ∙ held;
      logged = w.store.whole.mirrors.each;
    }
