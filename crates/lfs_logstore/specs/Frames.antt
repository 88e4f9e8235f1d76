-- What the cache of a store holds once all that waited was written.
use Rattle.std.specs.Prelude.{◌≡◌, ◌≤◌, ℕ, List, Some, IsSome}
use Rattle.lfs_bmap.specs.declared.blocks.TheConstants.{FIRST_DATA_CODE}
use Rattle.lfs_cache.specs.declared.key.Key.{Key}
use Rattle.lfs_cache.specs.Contents.{block_in, block_of}
use Rattle.lfs_parts.specs.declared.parts.Parts.{Parts}
use Rattle.lfs_parts.specs.Store.{IsLogged}

-- Each block that was held, dirty or clean, is held and clean, a data block with the bytes that it had; what is held is
-- what the log has for its key.
pub record KeepsCached (old new : Parts) : Type 0 where
  pub clean : (key : Key) → IsSome (block_of key old.cache) → IsSome (block_in key new.cache.lru)
  pub bytes : (key : Key) (block : List ℕ) → FIRST_DATA_CODE ≤ key.lbn.0 → block_of key old.cache ≡ Some block
      → block_in key new.cache.lru ≡ Some block
  pub logged : (key : Key) (block : List ℕ) → block_in key new.cache.lru ≡ Some block → IsLogged new key block
