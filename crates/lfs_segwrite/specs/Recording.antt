-- Steps of writing what waits: which keys have a new place, and what stays.
use Rattle.std.specs.Prelude.{◌≡◌, ◌⊎◌, ℕ, ◌+◌, ◌*◌, ◌/◌, ◌<◌, ◌≤◌, Some, length}
use Rattle.lfs_types.specs.declared.limits.TheConstants.{SEGMENT_BLOCKS}
use Rattle.lfs_ifile.specs.Tables.{row_of}
use Rattle.lfs_inodes.specs.declared.inode.Inode.{Inode}
use Rattle.lfs_inodes.specs.Reading.{Fields, fields_in, fields_of}
use Rattle.lfs_inodes.specs.Slots.{slot_of}
use Rattle.lfs_log.specs.Names.{named_at, record_owner}
use Rattle.lfs_segments.specs.declared.entry.SummaryEntry.{SummaryEntry}
use Rattle.lfs_segments.specs.Log.{first_of}
use Rattle.lfs_segments.specs.Memory.{block_at, has_serials, next_address}
use Rattle.lfs_segments.specs.Rising.{IsRising}
use Rattle.lfs_bmap.specs.declared.blocks.TheConstants.{BLOCK_CODES}
use Rattle.lfs_bmap.specs.declared.blocks.FileBlock.{FileBlock}
use Rattle.lfs_bmap.specs.Blocks.{logical_of}
use Rattle.lfs_parts.specs.declared.parts.Parts.{Parts}
use Rattle.lfs_staging.specs.Frames.{KeepsFrames}
use Rattle.lfs_parts.specs.Files.{content_of}
use Rattle.lfs_segwrite.specs.Flushing.{Waits}
use Rattle.lfs_parts.specs.Keys.{log_state}
use Rattle.lfs_parts.specs.View.{fields_at, version_of}

-- The log went on behind an address: each key that waits no more has a place there, every other one the place that it
-- had. No other block changed, the content is the same, no frame is given up, and serials rise where they did.
pub record Advances (from : ℕ) (old new : Parts) : Type 0 where
  pub content : content_of new ≡ content_of old
  pub segments : new.log.memory.segments ≡ old.log.memory.segments
  pub serials : has_serials new.log.memory ≡ has_serials old.log.memory
  pub rising : IsRising old.log.memory → IsRising new.log.memory
  pub active : new.log.memory.active ≡ old.log.memory.active
  pub states : new.log.tables.states ≡ old.log.tables.states
  pub clean : new.log.clean ≡ old.log.clean
  pub numbers : length new.log.tables.rows ≡ length old.log.tables.rows
  pub used : (number : ℕ) → (row_of new.log.tables number).used
      ≡ (row_of old.log.tables number).used
  pub versions : (number : ℕ) → version_of new number ≡ version_of old number
  pub next : next_address old.log.memory ≤ next_address new.log.memory
  pub only : (number code : ℕ) → number < length old.log.tables.rows → code < BLOCK_CODES
      → Waits new number code → Waits old number code
  pub still : (number code : ℕ) → number < length old.log.tables.rows → code < BLOCK_CODES
      → (Waits old number code → ⊥) → (log_state new).at number code
      ≡ (log_state old).at number code
  pub moved : (number code : ℕ) → number < length old.log.tables.rows → code < BLOCK_CODES
      → Waits old number code → (Waits new number code → ⊥)
      → (from ≤ (log_state new).at number code / 4)
      × ((log_state new).at number code / 4 < next_address new.log.memory)
  pub blocks : (a : ℕ) → (a < from) ⊎ (SEGMENT_BLOCKS * old.log.memory.active + SEGMENT_BLOCKS ≤ a)
      → block_at new.log.memory a ≡ block_at old.log.memory a
  pub held : KeepsFrames old.cache new.cache

-- The log has the record of an inode in a slot of the block at an address, and names it there.
pub record StandsAt (p : Parts) (v : Inode) (address slot : ℕ) : Type 0 where
  pub from : first_of p.log.memory.active ≤ address
  pub below : address < next_address p.log.memory
  pub in_block : slot < 4
  pub named : named_at p.log.memory (4 * address + slot) ≡ Some (record_owner v)
  pub reads : fields_at p.log.memory (record { addr = address; slot = slot; version = v.version })
      ≡ Some (fields_of v)

-- A record waits no more, and stands at its place.
pub record IsNoted (p : Parts) (number place : ℕ) : Type 0 where
  pub low : number < length p.log.tables.rows
  pub waits : Waits p number 0 → ⊥
  pub here : (log_state p).at number 0 ≡ place

-- so does each record of the blocks from an address on, to the log's end
pub record AreNoted (p : Parts) (from : ℕ) : Type 0 where
  pub each : (a slot : ℕ) (f : Fields) → from ≤ a → a < next_address p.log.memory → slot < 4
      → fields_in (slot_of (block_at p.log.memory a) slot) ≡ Some f → IsNoted p f.attributes.number (4 * a + slot)

-- what a summary says of a block of a number
abbrev pub entry_at_version : Parts → ℕ → FileBlock → SummaryEntry
entry_at_version p number block =
    record { number = number; version = version_of p number; block = logical_of block }
