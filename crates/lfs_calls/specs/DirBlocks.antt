-- What comes next of a directory's blocks, of which each is read when it is asked for.
use Rattle.std.specs.Prelude.{◌≡◌, ℕ, ◌+◌, ◌*◌, ◌/◌, ◌<◌, ◌≤◌, List, None}
use Rattle.lfs_types.specs.declared.block.TheConstants.{BLOCK_SIZE}
use Rattle.lfs_dirs.specs.Directory.{number_in}
use Rattle.lfs_dirs.specs.Reading.{entries_of}
use Rattle.lfs_calls.specs.declared.directory.DirBlock.{DirBlock}
use Rattle.lfs_calls.specs.declared.directory.DirBlocks.{DirBlocks}
use Rattle.lfs_calls.specs.Content.{block_at}

-- the next block is read, and those behind it are left
pub record IsNext (bytes : List ℕ) (blocks : DirBlocks) (stored : DirBlock) (left : DirBlocks) : Type 0 where
  pub within : blocks.next < blocks.size / BLOCK_SIZE
  pub off : stored.off ≡ BLOCK_SIZE * blocks.next
  pub is : stored.block ≡ block_at bytes blocks.next
  pub behind : left ≡ record blocks { next = blocks.next + 1 }

-- a name stands in no block from one index on to before another
abbrev pub PassesOver : List ℕ → List ℕ → ℕ → ℕ → Type 0
PassesOver name bytes from to = (j : ℕ) → from ≤ j → j < to
    → number_in name (entries_of (block_at bytes j)) ≡ None

-- the next block from that of index `k` on is read; a name stands in none before it
pub record IsNextOf (name bytes : List ℕ) (blocks : DirBlocks) (k : ℕ) (stored : DirBlock) (left : DirBlocks)
    : Type 0 where
  pub from : blocks.next ≤ k
  pub passed : PassesOver name bytes blocks.next k
  pub next : IsNext bytes (record blocks { next = k }) stored left
