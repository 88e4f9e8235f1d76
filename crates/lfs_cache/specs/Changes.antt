-- What a call changes in a cache, key by key, and what holds of every cache.
use Rattle.std.specs.Prelude.{◌≡◌, ◌≤◌, List, ℕ, ◌++◌, length, Some, false}
use Rattle.lfs_types.specs.declared.block.TheConstants.{BLOCK_SIZE}
use Rattle.lfs_cache.specs.declared.cache.TheConstants.{LOCKED_LIMIT}
use Rattle.lfs_cache.specs.declared.key.Key.{Key}
use Rattle.lfs_cache.specs.Keys.{same_key}
use Rattle.lfs_cache.specs.Contents.{Contents, block_in, block_of, overwritten, keys_of, AreApart}

-- every key has the block that it had, dirty or clean as it was
pub record KeepsBlocks (old new : Contents) : Type 0 where
  pub blocks : (key : Key) → block_of key new ≡ block_of key old
  pub dirty : (key : Key) → block_in key new.locked ≡ block_in key old.locked
  pub count : length new.locked ≡ length old.locked

-- every key but this one has the block that it had, dirty or clean as it was
pub record KeepsOthers (key : Key) (old new : Contents) : Type 0 where
  pub blocks : (other : Key) → same_key key other ≡ false → block_of other new ≡ block_of other old
  pub dirty : (other : Key) → same_key key other ≡ false
      → block_in other new.locked ≡ block_in other old.locked

-- every key but this one has the block that it had, or its block was clean and gave way
pub record GainsOnly (key : Key) (old new : Contents) : Type 0 where
  pub blocks : (other : Key) (block : List ℕ) → same_key key other ≡ false
      → block_of other new ≡ Some block → block_of other old ≡ Some block
  pub dirty : (other : Key) → same_key key other ≡ false
      → block_in other new.locked ≡ block_in other old.locked

-- a dirty block has bytes over its own from a place on: the same keys are dirty, in the same order, every other has the
-- block that it had, and what is clean stays as it is
pub record Overwrites (key : Key) (start : ℕ) (bytes : List ℕ) (old new : Contents) : Type 0 where
  pub block : (block : List ℕ) → block_in key old.locked ≡ Some block → (length block ≡ BLOCK_SIZE)
      × (block_in key new.locked ≡ Some (overwritten start bytes block))
  pub dirty : (other : Key) → same_key key other ≡ false → block_in other new.locked ≡ block_in other old.locked
  pub keys : keys_of new.locked ≡ keys_of old.locked
  pub clean : new.lru ≡ old.lru

-- what holds of every cache: no key is held twice, each block is whole, and few keys are LOCKED
pub record IsContents (s : Contents) : Type 0 where
  pub apart : AreApart (keys_of (s.locked ++ s.lru))
  pub sized : (key : Key) (block : List ℕ) → block_of key s ≡ Some block → length block ≡ BLOCK_SIZE
  pub limit : length s.locked ≤ LOCKED_LIMIT
