-- What stays when the log is given room for more blocks.
use Rattle.std.specs.Prelude.{◌≡◌, ◌≢◌, ◌⊎◌, ℕ, ◌+◌, ◌/◌, ◌≤◌}
use Rattle.lfs_types.specs.declared.limits.TheConstants.{SEGMENT_BLOCKS}
use Rattle.lfs_ifile.specs.declared.segment.SegState.TheVariants.{Clean}
use Rattle.lfs_segments.specs.Memory.{SegmentMemory, block_at, has_serials, opened, room_of}
use Rattle.lfs_segments.specs.Rising.{IsRising}
use Rattle.lfs_found.specs.Written.{IsRecoverable}
use Rattle.lfs_log.specs.Parts.{LogParts, state_of}
use Rattle.lfs_bmap.specs.Log.{SameKeys}
use Rattle.lfs_bmap.specs.Moves.{StaysDirty}
use Rattle.lfs_bmap.specs.Reading.{SameReadings}
use Rattle.lfs_parts.specs.declared.parts.Parts.{Parts}
use Rattle.lfs_parts.specs.Files.{content_of}
use Rattle.lfs_parts.specs.Keys.{log_state}
use Rattle.lfs_parts.specs.Store.{IsStore}
use Rattle.lfs_parts.specs.View.{record_of, tree_of}
use Rattle.lfs_segwrite.specs.Ordered.{IsOrdered}

-- A log's memory was made ready for what is to be written: it is what it was, or one segment was opened in it, which was
-- clean.
abbrev pub MadeReady : LogParts → SegmentMemory → Type 0
MadeReady log memory = (memory ≡ log.memory)
    ⊎ ((state_of log.tables memory.active ≡ Clean) × (memory ≡ opened log.memory memory.active))

-- The files are what they were: each number has its record, each block its address, its bytes and its place, and what
-- waits is the same. No block changed in a segment that was in use, and the segments that were dirty are dirty. The log
-- goes on where it did, or in a segment that was clean and was opened, and no block changed but that one's.
pub record KeepsFiles (old new : Parts) : Type 0 where
  pub serials : has_serials new.log.memory ≡ has_serials old.log.memory
  pub rising : IsRising old.log.memory → IsRising new.log.memory
  pub whole : IsRecoverable old.log.memory → IsRecoverable new.log.memory
  pub ordered : IsRecoverable old.log.memory → IsOrdered old.log → IsOrdered new.log
  pub rows : new.log.tables.rows ≡ old.log.tables.rows
  pub cache : new.cache ≡ old.cache
  pub waiting : new.waiting ≡ old.waiting
  pub content : content_of new ≡ content_of old
  pub records : (number : ℕ) → record_of new number ≡ record_of old number
  pub readings : (number : ℕ) → SameReadings (tree_of old number) (tree_of new number)
  pub keys : SameKeys (log_state old) (log_state new)
  pub dirty : StaysDirty (log_state old) (log_state new)
  pub blocks : (a : ℕ) → state_of old.log.tables (a / SEGMENT_BLOCKS) ≢ Clean
      → block_at new.log.memory a ≡ block_at old.log.memory a
  pub label : block_at new.log.memory 0 ≡ block_at old.log.memory 0
  pub end : MadeReady old.log new.log.memory

-- A clean segment was opened: it has room for all that one summary can name and more, and the files are what they were.
pub record OpensSegment (old new : Parts) : Type 0 where
  pub store : IsStore new
  pub files : KeepsFiles old new
  pub room : SEGMENT_BLOCKS ≤ room_of new.log.memory + 1
  pub clean : new.log.clean + 1 ≡ old.log.clean
  pub was_clean : state_of old.log.tables new.log.memory.active ≡ Clean
