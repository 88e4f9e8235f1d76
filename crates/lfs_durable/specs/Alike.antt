-- What recovery reads of a file, by its record and the blocks of the log alone, and what the store has.
use Rattle.std.specs.Prelude.{◌≡◌, ℕ, ◌+◌, ◌*◌, ◌<◌, ◌≤◌, Some}
use Rattle.lfs_types.specs.declared.limits.TheConstants.{FILE_BLOCKS}
use Rattle.lfs_types.specs.Stored.{bytes_of}
use Rattle.lfs_inodes.specs.Reading.{Fields}
use Rattle.lfs_bmap.specs.Reading.{address, data_block}
use Rattle.lfs_bmap.specs.Ways.{data_way}
use Rattle.lfs_parts.specs.declared.parts.Parts.{Parts}
use Rattle.lfs_parts.specs.Files.{content_of}
use Rattle.lfs_parts.specs.Store.{IsFlushed, IsStore}
use Rattle.lfs_parts.specs.View.{record_of, tree_of}
use Rattle.lfs_calls.specs.Content.{block_at}
use Rattle.lfs_reach.specs.Reach.{bytes_at, file_address}

-- Block n of a file: recovery reads its address and its bytes as the store does, and where the file has all of the block
-- it is that block of the file's bytes.
pub record ReadsAlike (p : Parts) (number : ℕ) (f : Fields) (n : ℕ) : Type 0 where
  pub same_address : file_address p.log.memory f n ≡ address (tree_of p number) (data_way n)
  pub same_bytes : bytes_at p.log.memory (file_address p.log.memory f n) ≡ data_block (tree_of p number) n
  pub shown : 512 * n + 512 ≤ f.attributes.size
      → bytes_at p.log.memory (file_address p.log.memory f n) ≡ block_at (bytes_of (content_of p) number) n

-- So it is of each block that a file can have, of a store of which nothing waits.
abbrev pub FindsBlocks : Type 0
FindsBlocks = (p : Parts) (number n : ℕ) (f : Fields) → IsStore p → IsFlushed p → record_of p number ≡ Some f
    → n < FILE_BLOCKS → ReadsAlike p number f n
