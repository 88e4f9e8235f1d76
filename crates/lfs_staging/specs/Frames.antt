-- The frames of a cache, dirty and clean.
use Rattle.std.specs.Prelude.{◌≡◌, ◌≤◌, is_some}
use Rattle.lfs_bmap.specs.declared.blocks.TheConstants.{FIRST_DATA_CODE}
use Rattle.lfs_cache.specs.declared.key.Key.{Key}
use Rattle.lfs_cache.specs.Contents.{Contents, block_of}

-- The keys that have a frame are those that had one, and a data block has the bytes that it had.
pub record KeepsFrames (old new : Contents) : Type 0 where
  pub keys : (key : Key) → is_some (block_of key new) ≡ is_some (block_of key old)
  pub bytes : (key : Key) → FIRST_DATA_CODE ≤ key.lbn.0 → block_of key new ≡ block_of key old
