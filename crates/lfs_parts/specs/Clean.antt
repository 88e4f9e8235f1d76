-- The clean blocks that a cache holds: those of LRU, which don't wait.
use Rattle.std.specs.Prelude.{◌≡◌, ◌⊎◌, ℕ, List, Some}
use Rattle.lfs_cache.specs.declared.key.Key.{Key}
use Rattle.lfs_cache.specs.Changes.{IsContents}
use Rattle.lfs_cache.specs.Contents.{Contents, block_in}
use Rattle.lfs_parts.specs.declared.parts.Parts.{Parts}

-- No block is clean that wasn't; some may have gone.
pub record GainsNoClean (old new : Contents) : Type 0 where
  pub each : (key : Key) (bytes : List ℕ) → block_in key new.lru ≡ Some bytes → block_in key old.lru ≡ Some bytes

-- A key may have come to have this clean block. Nothing else changed, but that other clean ones may have gone.
pub record Holds (key : Key) (block : List ℕ) (old new : Parts) : Type 0 where
  pub log : new.log ≡ old.log
  pub waiting : new.waiting ≡ old.waiting
  pub dirty : new.cache.locked ≡ old.cache.locked
  pub formed : IsContents new.cache
  pub clean : (other : Key) (bytes : List ℕ) → block_in other new.cache.lru ≡ Some bytes
      → ((other ≡ key) × (bytes ≡ block)) ⊎ (block_in other old.cache.lru ≡ Some bytes)
