-- When a partial segment is whole. Its blocks land in order over zeros, and its last one is an inode block with a
-- record in slot 0, which zeros are not: so where that record stands, all its blocks do.
use Rattle.std.specs.Prelude.{◌≡◌, ℕ, ◌+◌, ◌-◌, ◌/◌, ◌%◌, Bool, true, false, ◌&&◌, ◌==◌, nat_lt, if◌then◌else◌}
use Rattle.std.specs.Prelude.{List, Option, Some, None, length, slice_index_or}
use Rattle.lfs_types.specs.declared.limits.TheConstants.{SEGMENT_BLOCKS}
use Rattle.lfs_inodes.specs.Reading.{Fields, fields_in}
use Rattle.lfs_inodes.specs.Slots.{slot_of}
use Rattle.lfs_segments.specs.declared.entry.LogicalBlock.{LogicalBlock}
use Rattle.lfs_segments.specs.declared.entry.LogicalBlock.TheVariants.{Data, Single, Double, Child, Inodes}
use Rattle.lfs_segments.specs.declared.entry.SummaryEntry.{SummaryEntry}
use Rattle.lfs_segments.specs.Entry.{unused}
use Rattle.lfs_segments.specs.Memory.{SegmentMemory, block_at}
use Rattle.lfs_segments.specs.Serial.{Told, told_in}
use Rattle.lfs_recovery.specs.declared.places.PartialSegment.{PartialSegment}

-- whether it is an inode block
abbrev pub is_inodes : LogicalBlock → Bool
is_inodes (Data index) = false
is_inodes Single = false
is_inodes Double = false
is_inodes (Child index) = false
is_inodes Inodes = true

-- whether the last of these blocks is an inode block
abbrev pub ends_in_inodes : List SummaryEntry → Bool
ends_in_inodes entries = is_inodes (slice_index_or entries (length entries - 1) unused).block

abbrev pub is_there : Option Fields → Bool
is_there None = false
is_there (Some _) = true

-- whether a record stands in slot 0 of the block at an address
unfoldable pub has_record : SegmentMemory → ℕ → Bool
has_record m address = is_there (fields_in (slot_of (block_at m address) 0))

-- whether what a summary at an address tells is a whole partial segment there, with a serial above another
unfoldable pub is_next : SegmentMemory → ℕ → ℕ → Told → Bool
is_next m address above t =
    (t.segment == address / SEGMENT_BLOCKS)
    && ((t.offset == address % SEGMENT_BLOCKS)
    && (nat_lt above t.serial
    && (ends_in_inodes t.entries
    && has_record m (address + length t.entries))))

abbrev pub told_if : (Told → Bool) → Option Told → Option Told
told_if test None = None
told_if test (Some t) = if test t then Some t else None

-- what the summary of the whole partial segment at an address tells, where one stands there with a serial above another
unfoldable pub whole_at : SegmentMemory → ℕ → ℕ → Option Told
whole_at m address above = told_if (is_next m address above) (told_in (block_at m address))

-- A partial segment is whole: its summary has its serial and says where it stands, and its last block is an inode block
-- with a record.
pub record IsWhole (m : SegmentMemory) (p : PartialSegment) : Type 0 where
  pub told : Told
  pub spelled : told_in (block_at m p.address) ≡ Some told
  pub serial : told.serial ≡ p.serial
  pub count : length told.entries ≡ p.count
  pub segment : told.segment ≡ p.address / SEGMENT_BLOCKS
  pub offset : told.offset ≡ p.address % SEGMENT_BLOCKS
  pub last : ends_in_inodes told.entries ≡ true
  pub record_there : has_record m (p.address + p.count) ≡ true
