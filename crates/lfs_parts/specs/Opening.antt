-- A volume that was just laid out: the root directory alone, with its record in the second block of the log.
use Rattle.std.specs.Prelude.{◌≡◌, ◌≢◌, ℕ, ◌+◌, ◌<◌, ◌≤◌, ◌⊎◌, [], ◌∷◌, None, Some, length, replicate, if◌then◌else◌}
use Rattle.std.specs.Prelude.{◌==◌, slice_index, true, Option}
use Rattle.lfs_types.specs.declared.limits.TheConstants.{ROOT_INODE}
use Rattle.lfs_types.specs.Ranges.{least_segments, most_segments, least_inodes, most_inodes, least_frames, most_frames}
use Rattle.lfs_types.specs.Tree.{attrs_of, fresh_root}
use Rattle.lfs_segments.specs.declared.entry.LogicalBlock.TheVariants.{Inodes}
use Rattle.lfs_segments.specs.declared.entry.SummaryEntry.{SummaryEntry}
use Rattle.lfs_segments.specs.Log.{Expects, entry_at}
use Rattle.lfs_segments.specs.Memory.{SegmentMemory, block_at, label, next_serial}
use Rattle.lfs_segments.specs.Serial.{IsSummaryWith}
use Rattle.lfs_ifile.specs.declared.inode.InodeRow.{InodeRow}
use Rattle.lfs_ifile.specs.declared.segment.SegState.TheVariants.{Clean, Active}
use Rattle.lfs_ifile.specs.Inode.{fresh_row}
use Rattle.lfs_ifile.specs.Tables.{Tables, fresh_tables, row_of, usage_of, with_state}
use Rattle.lfs_inodes.specs.Attributes.{attributes_from}
use Rattle.lfs_inodes.specs.Reading.{Fields, fields_in}
use Rattle.lfs_inodes.specs.Slots.{slot_of}
use Rattle.lfs_cache.specs.Contents.{nothing_in}
use Rattle.lfs_log.specs.Parts.{IsParts}
use Rattle.lfs_parts.specs.declared.parts.Parts.{Parts}
use Rattle.lfs_inodes.specs.declared.inode.TheConstants.{ROOT_COUNT}

-- a number of segments, of inode numbers or of frames is the first one out of its range, and below it
abbrev pub IsTooFew : ℕ → ℕ → ℕ → Type 0
IsTooFew segments inodes frames =
    (segments < least_segments) ⊎ ((segments ≤ most_segments)
    × ((inodes < least_inodes) ⊎ ((inodes ≤ most_inodes) × (frames < least_frames))))

-- or above it
abbrev pub IsTooMany : ℕ → ℕ → ℕ → Type 0
IsTooMany segments inodes frames =
    (most_segments < segments) ⊎ ((least_segments ≤ segments)
    × ((most_inodes < inodes) ⊎ ((least_inodes ≤ inodes) × (most_frames < frames))))

-- the entry of a block of inodes
abbrev pub inodes_entry : SummaryEntry
inodes_entry = record { number = 0; version = 0; block = Inodes }

-- the record of the root directory at a version
abbrev pub root_fields : ℕ → Fields
root_fields version = record {
  attributes = attributes_from ROOT_INODE version (attrs_of fresh_root) 0;
  addresses = replicate ROOT_COUNT 0;
}

-- the row of the root directory: its record stands in slot 0 of block 2
abbrev pub root_row : InodeRow
root_row = record { used = true; address = 2; slot = 0; version = 1 }

-- the tables before anything is written: segment 0 is active, and no number is in use
abbrev pub fresh_used : ℕ → ℕ → Tables
fresh_used segments inodes = with_state (fresh_tables segments inodes) 0 Active

-- the segments: segment 0 is active, and behind the label it has a summary at address 1, with this serial if any, and at
-- 2 the block that it names, with the root's record alone, at version 1
pub record HasRootBlock (serial : Option ℕ) (m : SegmentMemory) : Type 0 where
  pub active : m.active ≡ 0
  pub filled : m.fill ≡ 3
  pub ready : Expects m []
  pub next : m.serial ≡ next_serial serial
  pub summary : IsSummaryWith serial (block_at m 1) 0 1 (inodes_entry ∷ [])
  pub entry : entry_at m 2 ≡ Some inodes_entry
  pub root : fields_in (slot_of (block_at m 2) 0) ≡ Some (root_fields 1)
  pub alone : (k : ℕ) → 0 < k → k < 4 → fields_in (slot_of (block_at m 2) k) ≡ None

-- the tables: the root alone is in use, and its record's bytes in segment 0 are the live ones
pub record HasRootRow (many_segments many_inodes : ℕ) (t : Tables) : Type 0 where
  pub segments : length t.live ≡ many_segments
  pub inodes : length t.rows ≡ many_inodes
  pub live : (s : ℕ) → slice_index t.live s ≡ (if s == 0 then 128 else 0)
  pub active : (usage_of t 0).state ≡ Active
  pub clean : (s : ℕ) → s ≢ 0 → (usage_of t s).state ≡ Clean
  pub root : row_of t ROOT_INODE ≡ root_row
  pub others : (number : ℕ) → number ≢ ROOT_INODE → row_of t number ≡ fresh_row

-- the parts of such a volume: block 0 is the label, all frames are empty, and nothing waits
pub record IsOpeningWith (serial : Option ℕ) (many_segments many_inodes many_frames : ℕ) (p : Parts) : Type 0 where
  pub memory : HasRootBlock serial p.log.memory
  pub label : block_at p.log.memory 0 ≡ label many_segments many_inodes
  pub size : p.log.memory.segments ≡ many_segments
  pub parts : IsParts p.log
  pub tables : HasRootRow many_segments many_inodes p.log.tables
  pub cache : p.cache ≡ nothing_in many_frames
  pub no_record : p.waiting ≡ []
  pub clean : p.log.clean + 1 ≡ many_segments

-- whose summaries have no serials
abbrev pub IsOpening : ℕ → ℕ → ℕ → Parts → Type 0
IsOpening segments inodes frames p = IsOpeningWith None segments inodes frames p
