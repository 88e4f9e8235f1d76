-- What the fields of an inode record may hold.
use Rattle.std.specs.Prelude.{◌≡◌, ◌≢◌, ◌≤◌, ◌<◌, ℕ, ◌+◌, ◌/◌, ◌%◌, ◌⊎◌, List, slice_index}
use Rattle.lfs_types.specs.declared.attrs.Kind.{Kind}
use Rattle.lfs_types.specs.declared.attrs.Kind.TheVariants.{Directory}
use Rattle.lfs_types.specs.declared.block.TheConstants.{BLOCK_SIZE}
use Rattle.lfs_types.specs.declared.limits.TheConstants.{FILE_BYTES}
use Rattle.lfs_types.specs.Ranges.{most_inodes}
use Rattle.lfs_inodes.specs.declared.inode.TheConstants.{ADDRESS_LIMIT, DIRECT_COUNT, SINGLE_END}

-- the number of blocks of 512 bytes that a size takes
abbrev pub block_count : ℕ → ℕ
block_count size = (size + 511) / 512

-- 2 is the root; 0 and 3 are never used, and 1 stands for the ifile
abbrev pub IsInodeNumber : ℕ → Type 0
IsInodeNumber n = (2 ≤ n) × (n ≢ 3) × (n < most_inodes)

-- at most as many bytes as a file may have; a directory's bytes are whole blocks
abbrev pub IsSizeOf : Kind → ℕ → Type 0
IsSizeOf kind size = (size ≤ FILE_BYTES) × (kind ≡ Directory → size % BLOCK_SIZE ≡ 0)

-- direct addresses lie in the volume, and only blocks below the size have one
abbrev pub AreDirect : ℕ → List ℕ → Type 0
AreDirect size direct = (n : ℕ) → n < DIRECT_COUNT → (slice_index direct n < ADDRESS_LIMIT)
    × (block_count size ≤ n → slice_index direct n ≡ 0)

-- so does the address of the indirect block, which is there for the blocks from 12 on
abbrev pub IsSingle : ℕ → ℕ → Type 0
IsSingle size single = (single < ADDRESS_LIMIT) × (block_count size ≤ DIRECT_COUNT → single ≡ 0)

-- and that of the double indirect block, for those from 140 on
abbrev pub IsDouble : ℕ → ℕ → Type 0
IsDouble size double = (double < ADDRESS_LIMIT) × (block_count size ≤ SINGLE_END → double ≡ 0)

-- record version 2, or 1, which has no double indirect address
abbrev pub IsVersion : ℕ → ℕ → Type 0
IsVersion version double = (version ≡ 2) ⊎ ((version ≡ 1) × (double ≡ 0))
