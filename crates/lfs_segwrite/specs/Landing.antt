-- What waits is written into the log, block by block.
use Rattle.std.specs.Prelude.{◌≡◌, ◌≢◌, ℕ, ◌+◌, ◌*◌, ◌<◌, List, ◌∷◌, length, None}
use Rattle.lfs_inodes.specs.declared.inode.Inode.{Inode}
use Rattle.lfs_cache.specs.Contents.{IsLocked, block_in}
use Rattle.lfs_log.specs.Parts as log
use Rattle.lfs_segments.specs.declared.entry.SummaryEntry.{SummaryEntry}
use Rattle.lfs_segments.specs.Log.{Expects}
use Rattle.lfs_segments.specs.Memory.{SegmentMemory, block_at, has_serials, next_address}
use Rattle.lfs_segments.specs.Rising.{IsRising}
use Rattle.lfs_types.specs.declared.limits.TheConstants.{SEGMENT_BLOCKS}
use Rattle.lfs_bmap.specs.declared.blocks.TheConstants.{BLOCK_CODES}
use Rattle.lfs_bmap.specs.Counting.{placed}
use Rattle.lfs_bmap.specs.Log.{Writes}
use Rattle.lfs_bmap.specs.Reading.{IsUnread, Lands, SameReadings, data_block}
use Rattle.lfs_bmap.specs.Blocks.{IsFileBlock, code_of, logical_of, way_to}
use Rattle.lfs_bmap.specs.declared.blocks.FileBlock.{FileBlock}
use Rattle.lfs_parts.specs.declared.parts.Parts.{Parts}
use Rattle.lfs_parts.specs.Keys.{log_state}
use Rattle.lfs_parts.specs.Store.{HolderWaits, IsWithin}
use Rattle.lfs_parts.specs.View.{key_of, record_of, tree_of}
use Rattle.lfs_staging.specs.Addressing.{IsWaiting}
use Rattle.lfs_staging.specs.Frames.{KeepsFrames}

-- the entry that names a block of a file
abbrev pub entry_of : Inode → FileBlock → SummaryEntry
entry_of v block = record { number = v.number; version = v.version; block = logical_of block }

-- The log goes on with a block.
pub record ExpectsSome (m : SegmentMemory) : Type 0 where
  pub entry : SummaryEntry
  pub rest : List SummaryEntry
  pub expects : Expects m (entry ∷ rest)

-- It goes on with the block of this entry.
pub record ExpectsBlock (m : SegmentMemory) (entry : SummaryEntry) : Type 0 where
  pub rest : List SummaryEntry
  pub expects : Expects m (entry ∷ rest)

-- A block was put at the log's end, where no block of a file lay: each record, and the block at each other address, is
-- as it was.
pub record AppendsBlock (old new : Parts) (a : ℕ) (block : List ℕ) : Type 0 where
  pub end : a ≡ next_address old.log.memory
  pub somewhere : a ≢ 0
  pub inside : a < old.log.memory.active * SEGMENT_BLOCKS + SEGMENT_BLOCKS
  pub serials : has_serials new.log.memory ≡ has_serials old.log.memory
  pub rising : IsRising old.log.memory → IsRising new.log.memory
  pub tables : new.log.tables ≡ old.log.tables
  pub cache : new.cache ≡ old.cache
  pub waiting : new.waiting ≡ old.waiting
  pub written : block_at new.log.memory a ≡ block
  pub blocks : (b : ℕ) → b ≢ a → block_at new.log.memory b ≡ block_at old.log.memory b
  pub unread : (number : ℕ) → number < length old.log.tables.rows → IsUnread (tree_of old number) a
  pub records : (number : ℕ) → record_of new number ≡ record_of old number
  pub step : Writes (log_state old) (log.log_state new.log (log_state old).at) 1

-- A block of a file may land: it waits, and so do the file's record and what holds the block's address.
pub record MayLand (p : Parts) (v : Inode) (block : FileBlock) : Type 0 where
  pub is : IsWaiting p v
  pub waits : IsLocked (key_of v.number v.version (code_of block)) p.cache
  pub can : IsFileBlock block
  pub other : code_of block ≢ 0
  pub within : IsWithin block v.size
  pub parent : (i : ℕ) (up : List ℕ) → way_to block ≡ i ∷ up
      → HolderWaits p.cache v.number v.version up

-- A block of a file landed at an address: the log has it there with the bytes that it meant, and no data block of any
-- file reads otherwise. It waits no more, and its frame stays in the cache, clean, with its bytes; no other is given up.
pub record LandsBlock (old new : Parts) (v : Inode) (block : FileBlock) (a : ℕ) : Type 0 where
  pub lands : (i : ℕ) (up : List ℕ) → way_to block ≡ i ∷ up
      → Lands (tree_of old v.number) (tree_of new v.number) i up a
  pub records : (number : ℕ) → number ≢ v.number → record_of new number ≡ record_of old number
  pub readings : (number : ℕ) → number < length old.log.tables.rows → number ≢ v.number
      → SameReadings (tree_of old number) (tree_of new number)
  pub file_data : (number n : ℕ) → number < length old.log.tables.rows
      → data_block (tree_of new number) n ≡ data_block (tree_of old number) n
  pub rows : new.log.tables.rows ≡ old.log.tables.rows
  pub flushed : block_in (key_of v.number v.version (code_of block)) new.cache.locked ≡ None
  pub cached : block_in (key_of v.number v.version (code_of block)) new.cache.lru
      ≡ block_in (key_of v.number v.version (code_of block)) old.cache.locked
  pub held : KeepsFrames old.cache new.cache

-- A key took a place in the block at an address that the log just got, at its end: every other key kept the place that
-- it had. Live bytes apart, nothing else of the log changed.
pub record GetsPlace (old new : Parts) (number code a place : ℕ) : Type 0 where
  pub end : a ≡ next_address old.log.memory
  pub next : next_address new.log.memory ≡ next_address old.log.memory + 1
  pub segments : new.log.memory.segments ≡ old.log.memory.segments
  pub serials : has_serials new.log.memory ≡ has_serials old.log.memory
  pub rising : IsRising old.log.memory → IsRising new.log.memory
  pub active : new.log.memory.active ≡ old.log.memory.active
  pub states : new.log.tables.states ≡ old.log.tables.states
  pub clean : new.log.clean ≡ old.log.clean
  pub places : (n c : ℕ) → n < length old.log.tables.rows → c < BLOCK_CODES
      → (log_state new).at n c ≡ placed (log_state old).at number code place n c
  pub blocks : (b : ℕ) → b ≢ a → block_at new.log.memory b ≡ block_at old.log.memory b
