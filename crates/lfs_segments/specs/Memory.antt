-- The memory of a volume as callers see it, and what each call makes of it.
use Rattle.std.specs.Prelude.{◌≡◌, ℕ, zero, suc, ◌+◌, ◌-◌, ◌*◌, ◌/◌, ◌%◌, ◌<◌, ◌≤◌, List, [], ◌∷◌, ◌++◌, All, length}
use Rattle.std.specs.Prelude.{take, drop, replicate, slice_index_or, Bool, Option, None, Some, is_some, option_map, ⊤}
use Rattle.std.specs.Prelude.{if◌then◌else◌, nat_lt}
use Rattle.byteorder.specs.Endian.{big_bytes}
use Rattle.lfs_types.specs.declared.block.TheConstants.{BLOCK_SIZE}
use Rattle.lfs_types.specs.declared.limits.TheConstants.{SEGMENT_BLOCKS}
use Rattle.lfs_types.specs.Ranges.{least_segments, most_segments}
use Rattle.lfs_types.specs.Blocks.{zero_block}

-- How many segments there are, the active one, how many of its blocks are used, the serial that the next summary gets
-- where summaries have serials, and every block by its address. The address of a block is SEGMENT_BLOCKS times its
-- segment and its place in it.
pub record SegmentMemory : Type 0 where
  pub segments : ℕ
  pub active : ℕ
  pub fill : ℕ
  pub serial : Option ℕ
  pub blocks : List (List ℕ)

-- the memory that these blocks are
abbrev pub seen_with : Option ℕ → List (List ℕ) → ℕ → ℕ → SegmentMemory
seen_with serial blocks active fill = record {
  segments = length blocks / SEGMENT_BLOCKS;
  active = active;
  fill = fill;
  serial = serial;
  blocks = blocks;
}

-- that of a log whose summaries have no serials
abbrev pub seen : List (List ℕ) → ℕ → ℕ → SegmentMemory
seen blocks active fill = seen_with None blocks active fill

-- whether its summaries have serials
abbrev pub has_serials : SegmentMemory → Bool
has_serials m = is_some m.serial

-- serials are counted from 1, and have four bytes
abbrev pub IsNextSerial : Option ℕ → Type 0
IsNextSerial None = ⊤
IsNextSerial (Some serial) = (0 < serial) × (serial < 4294967296)

-- the serial behind one; the last one, 2 ^ 32 - 1, stays
abbrev pub serial_after : ℕ → ℕ
serial_after serial = if nat_lt serial 4294967295 then serial + 1 else serial

abbrev pub next_serial : Option ℕ → Option ℕ
next_serial serial = option_map serial_after serial

-- where the log of a segment begins: behind the label in the first segment
abbrev pub log_start : ℕ → ℕ
log_start zero = 1
log_start (suc _) = 0

-- what holds of the memory after every call
pub record IsLaidOut (m : SegmentMemory) : Type 0 where
  pub at_least : least_segments ≤ m.segments
  pub at_most : m.segments ≤ most_segments
  pub whole : length m.blocks ≡ m.segments * SEGMENT_BLOCKS
  pub each : All (λ block. length block ≡ BLOCK_SIZE) m.blocks
  pub active : m.active < m.segments
  pub begun : log_start m.active ≤ m.fill
  pub within : m.fill ≤ SEGMENT_BLOCKS
  pub told : IsNextSerial m.serial

-- block 0: the mark LFS1, the number of segments, the number of inode numbers
unfoldable pub label : ℕ → ℕ → List ℕ
label segments inodes = big_bytes 4 0x4c46_5331
    ++ (big_bytes 4 segments ++ (big_bytes 4 inodes ++ replicate 500 0))

-- a volume before anything is written: zeros behind the label, segment 0 active, and the serial of its first summary
abbrev pub fresh_with : Option ℕ → ℕ → ℕ → SegmentMemory
fresh_with serial segments inodes = record {
  segments = segments;
  active = 0;
  fill = 1;
  serial = serial;
  blocks = label segments inodes ∷ replicate (segments * SEGMENT_BLOCKS - 1) zero_block;
}

-- without serials
abbrev pub fresh : ℕ → ℕ → SegmentMemory
fresh segments inodes = fresh_with None segments inodes

-- the block at an address
abbrev pub block_at : SegmentMemory → ℕ → List ℕ
block_at m address = slice_index_or m.blocks address []

-- the address that the next block gets
abbrev pub next_address : SegmentMemory → ℕ
next_address m = m.active * SEGMENT_BLOCKS + m.fill

-- how many blocks the active segment has left
abbrev pub room_of : SegmentMemory → ℕ
room_of m = SEGMENT_BLOCKS - m.fill

-- the blocks, with others written from an address on
abbrev pub written : List (List ℕ) → ℕ → List (List ℕ) → List (List ℕ)
written blocks address others = take address blocks
    ++ (others ++ drop (address + length others) blocks)

-- the memory with blocks appended to the log
abbrev pub appended : SegmentMemory → List (List ℕ) → SegmentMemory
appended m others =
    record m { fill = m.fill + length others; blocks = written m.blocks (next_address m) others }

-- the memory with its serial used up
abbrev pub raised : SegmentMemory → SegmentMemory
raised m = record m { serial = next_serial m.serial }

-- the memory with a segment made active: zeros from where its log begins to its end
abbrev pub opened : SegmentMemory → ℕ → SegmentMemory
opened m segment = record m {
  active = segment;
  fill = log_start segment;
  blocks = written m.blocks (segment * SEGMENT_BLOCKS + log_start segment)
      (replicate (SEGMENT_BLOCKS - log_start segment) zero_block);
}

-- so many blocks are whole segments, as many as a volume may have; one of them is active, with so many of its blocks
-- used
pub record IsVolume (count active fill : ℕ) : Type 0 where
  pub whole : count % SEGMENT_BLOCKS ≡ 0
  pub at_least : least_segments ≤ count / SEGMENT_BLOCKS
  pub at_most : count / SEGMENT_BLOCKS ≤ most_segments
  pub active_inside : active < count / SEGMENT_BLOCKS
  pub begun : log_start active ≤ fill
  pub within : fill ≤ SEGMENT_BLOCKS
