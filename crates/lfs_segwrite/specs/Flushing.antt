-- What is written at the log's end, and that all that waits was.
use Rattle.std.specs.Prelude.{◌≡◌, ◌≢◌, ◌⊎◌, ℕ, ◌+◌, ◌*◌, ◌/◌, ◌<◌, ◌≤◌, zero, suc, IsSome, length}
use Rattle.lfs_types.specs.declared.limits.TheConstants.{SEGMENT_BLOCKS}
use Rattle.lfs_cache.specs.Contents.{IsLocked}
use Rattle.lfs_ifile.specs.declared.segment.SegState.TheVariants.{Clean}
use Rattle.lfs_ifile.specs.Tables.{row_of}
use Rattle.lfs_segments.specs.Memory.{block_at, has_serials, next_address}
use Rattle.lfs_segments.specs.Rising.{IsRising}
use Rattle.lfs_found.specs.Written.{IsRecoverable, WritesEntries}
use Rattle.lfs_log.specs.Parts.{state_of}
use Rattle.lfs_bmap.specs.declared.blocks.TheConstants.{BLOCK_CODES}
use Rattle.lfs_bmap.specs.Moves.{DirtyIn, Moves, StaysDirty}
use Rattle.lfs_parts.specs.declared.parts.Parts.{Parts}
use Rattle.lfs_segwrite.specs.Ordered.{IsOrdered}
use Rattle.lfs_segwrite.specs.Collecting.{blocks_of_entries, entries_of}
use Rattle.lfs_segwrite.specs.Room.{MadeReady}
use Rattle.lfs_staging.specs.Frames.{KeepsFrames}
use Rattle.lfs_parts.specs.Files.{content_of}
use Rattle.lfs_parts.specs.Keys.{log_state}
use Rattle.lfs_parts.specs.Store.{IsFlushed, IsStore}
use Rattle.lfs_parts.specs.View.{key_of, version_of, waiting_in}

-- Blocks were written at the log's end, perhaps in a clean segment that was opened for them. No key came to lie in a
-- segment that was dirty, each of these is dirty still, no block that was written is another, and nor is the label, block 0. Where recovery found all
-- that was begun, it finds all that is, and where the inode map had each number's latest record, it has it.
pub record WritesAhead (old new : Parts) : Type 0 where
  pub segments : new.log.memory.segments ≡ old.log.memory.segments
  pub serials : has_serials new.log.memory ≡ has_serials old.log.memory
  pub rising : IsRising old.log.memory → IsRising new.log.memory
  pub whole : IsRecoverable old.log.memory → IsRecoverable new.log.memory
  pub ordered : IsRecoverable old.log.memory → IsOrdered old.log → IsOrdered new.log
  pub numbers : length new.log.tables.rows ≡ length old.log.tables.rows
  pub clean : new.log.clean ≤ old.log.clean
  pub moves : Moves (DirtyIn (log_state old)) (log_state old) (log_state new)
  pub dirty : StaysDirty (log_state old) (log_state new)
  pub label : block_at new.log.memory 0 ≡ block_at old.log.memory 0
  pub blocks : (a : ℕ) → state_of old.log.tables (a / SEGMENT_BLOCKS) ≢ Clean
      → (a / SEGMENT_BLOCKS ≡ old.log.memory.active → a < next_address old.log.memory)
      → block_at new.log.memory a ≡ block_at old.log.memory a

-- a key waits to be written: a record, or another block of a number in use
abbrev pub Waits : Parts → ℕ → ℕ → Type 0
Waits p number zero = IsSome (waiting_in p.waiting number)
Waits p number (suc code) = IsLocked (key_of number (version_of p number) (suc code)) p.cache

-- All that waited was written as one partial segment, behind what the active segment held: one summary and the blocks
-- that it names, and nothing where nothing waited. The content is the same. Each key that waited has a place there,
-- every other one the place that it had, and no other block changed. The cache holds each block that it held, clean now.
-- Where summaries have serials, recovery finds the partial segment whole, and what it found before (`written`, `whole`);
-- and where the inode map had each number's latest record, it has it (`ordered`).
pub record Flushes (old new : Parts) : Type 0 where
  pub store : IsStore new
  pub flushed : IsFlushed new
  pub content : content_of new ≡ content_of old
  pub segments : new.log.memory.segments ≡ old.log.memory.segments
  pub serials : has_serials new.log.memory ≡ has_serials old.log.memory
  pub rising : IsRising old.log.memory → IsRising new.log.memory
  pub active : new.log.memory.active ≡ old.log.memory.active
  pub states : new.log.tables.states ≡ old.log.tables.states
  pub clean : new.log.clean ≡ old.log.clean
  pub numbers : length new.log.tables.rows ≡ length old.log.tables.rows
  pub used : (number : ℕ) → (row_of new.log.tables number).used
      ≡ (row_of old.log.tables number).used
  pub versions : (number : ℕ) → version_of new number ≡ version_of old number
  pub still : (number code : ℕ) → number < length old.log.tables.rows → code < BLOCK_CODES
      → (Waits old number code → ⊥) → (log_state new).at number code
      ≡ (log_state old).at number code
  pub moved : (number code : ℕ) → number < length old.log.tables.rows → code < BLOCK_CODES
      → Waits old number code → (next_address old.log.memory ≤ (log_state new).at number code / 4)
      × ((log_state new).at number code / 4 < next_address new.log.memory)
  pub blocks : (a : ℕ) → (a < next_address old.log.memory)
      ⊎ (SEGMENT_BLOCKS * old.log.memory.active + SEGMENT_BLOCKS ≤ a)
      → block_at new.log.memory a ≡ block_at old.log.memory a
  pub held : KeepsFrames old.cache new.cache
  pub grown : next_address new.log.memory
      ≡ next_address old.log.memory + blocks_of_entries (entries_of old)
  pub written : 0 < length old.waiting
      → WritesEntries old.log.memory new.log.memory (entries_of old)
  pub whole : IsRecoverable old.log.memory → IsRecoverable new.log.memory
  pub ordered : IsRecoverable old.log.memory → IsOrdered old.log → IsOrdered new.log

-- What was to be written was written in one flush: where the log ended, or in a segment that was opened for it, which
-- was clean. So no block of a clean segment changed but of that one. (`ready` is the store before the flush: what was to
-- be written waits in it.)
pub record FlushesAhead (old new : Parts) : Type 0 where
  pub ready : Parts
  pub end : MadeReady old.log ready.log.memory
  pub flushes : Flushes ready new
