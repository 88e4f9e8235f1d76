-- What a log keeps: the segment memory, the ifile's tables and the count of clean segments.
use Rattle.std.specs.Prelude.{◌≡◌, ◌≤◌, ◌/◌, ◌≢◌, ℕ, ◌-◌, ◌+◌, ◌*◌, ◌<◌, length, slice_index, slice_index_or}
use Rattle.std.specs.Prelude.{if◌then◌else◌, ◌==◌, Option, None}
use Rattle.lfs_types.specs.declared.limits.TheConstants.{SEGMENT_BLOCKS}
use Rattle.lfs_ifile.specs.declared.segment.TheConstants.{SEGMENT_BYTES}
use Rattle.lfs_ifile.specs.declared.segment.SegState.{SegState}
use Rattle.lfs_ifile.specs.declared.segment.SegState.TheVariants.{Clean, Dirty, Active}
use Rattle.lfs_ifile.specs.Tables.{IsIfile, Tables, fresh_tables, row_of, with_state}
use Rattle.lfs_segments.specs.Memory.{IsLaidOut, SegmentMemory, fresh_with, next_address, opened}
use Rattle.lfs_bmap.specs.Counting.{total, units}
use Rattle.lfs_bmap.specs.Log.{LogState, clean_unit}
use Rattle.lfs_log.specs.Names.{named_at}

pub record LogParts : Type 0 where
  pub memory : SegmentMemory
  pub tables : Tables
  pub clean : ℕ

-- the state of a segment
abbrev pub state_of : Tables → ℕ → SegState
state_of tables segment = slice_index_or tables.states segment Clean

-- the live bytes of a segment
abbrev pub live_of : Tables → ℕ → ℕ
live_of tables segment = slice_index tables.live segment

-- everything stays but live bytes, and the tables are well formed
pub record SameButLive (old new : Tables) : Type 0 where
  pub segments : length new.live ≡ length old.live
  pub states : new.states ≡ old.states
  pub rows : new.rows ≡ old.rows
  pub formed : IsIfile new

-- The live bytes of a block with this code may move from one address to another, 0 being none: both lie in the volume,
-- the segment of the old one has those bytes, and that of the new one has room for them.
pub record MayMoveLive (p : LogParts) (code from to : ℕ) : Type 0 where
  pub from_inside : from < SEGMENT_BLOCKS * p.memory.segments
  pub to_inside : to < SEGMENT_BLOCKS * p.memory.segments
  pub had : from ≢ 0 → 128 * units code ≤ live_of p.tables (from / SEGMENT_BLOCKS)
  pub fits : to ≢ 0 → live_of p.tables (to / SEGMENT_BLOCKS) + 128 * units code ≤ SEGMENT_BYTES

-- How many of the first n segments are clean.
unfoldable pub clean_count : Tables → ℕ → ℕ
clean_count tables n = total (λ s. clean_unit (state_of tables s)) n

-- What holds of a log after every call: its parts are well formed and agree on the number of segments, the segment
-- that the memory writes is the only active one, and the clean ones are counted.
pub record IsParts (p : LogParts) : Type 0 where
  pub laid_out : IsLaidOut p.memory
  pub formed : IsIfile p.tables
  pub agree : length p.tables.live ≡ p.memory.segments
  pub is_active : state_of p.tables p.memory.active ≡ Active
  pub no_other : (s : ℕ) → s < p.memory.segments → state_of p.tables s ≡ Active → s ≡ p.memory.active
  pub counted : p.clean ≡ clean_count p.tables p.memory.segments

-- a new log: segment 0 is active, the others are clean, and its first summary has this serial, if any
abbrev pub fresh_parts_with : Option ℕ → ℕ → ℕ → LogParts
fresh_parts_with serial segments inodes =
    record {
      memory = fresh_with serial segments inodes;
      tables = with_state (fresh_tables segments inodes) 0 Active;
      clean = segments - 1;
    }

-- without serials
abbrev pub fresh_parts : ℕ → ℕ → LogParts
fresh_parts segments inodes = fresh_parts_with None segments inodes

-- the tables after a segment became the active one in place of another
abbrev pub opened_tables : Tables → ℕ → ℕ → Tables
opened_tables tables active segment = with_state (with_state tables active Dirty) segment Active

-- the log with a clean segment opened: it is the active one, and that before it is dirty
abbrev pub opened_parts : LogParts → ℕ → LogParts
opened_parts p segment = record {
  memory = opened p.memory segment;
  tables = opened_tables p.tables p.memory.active segment;
  clean = p.clean - 1;
}

-- The place of an inode number's record: none where its address is 0.
unfoldable pub record_place : Tables → ℕ → ℕ
record_place tables number =
    let row = row_of tables number in if row.address == 0 then 0 else 4 * row.address + row.slot

-- The log as its keys see it, where these are their places.
abbrev pub log_state : LogParts → (ℕ → ℕ → ℕ) → LogState
log_state p at = record {
  numbers = length p.tables.rows;
  segments = p.memory.segments;
  at = at;
  version = λ n. (row_of p.tables n).version;
  owner = named_at p.memory;
  live = live_of p.tables;
  state = state_of p.tables;
  active = p.memory.active;
  next = next_address p.memory;
  clean = p.clean;
}

-- a segment is the active one, and no other is
pub record IsActiveAlone (tables : Tables) (active : ℕ) : Type 0 where
  pub is_active : state_of tables active ≡ Active
  pub no_other : (s : ℕ) → s < length tables.live → state_of tables s ≡ Active → s ≡ active
