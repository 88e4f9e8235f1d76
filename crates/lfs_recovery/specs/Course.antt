-- The logs of all segments, read block by block from address 0 on.
use Rattle.std.specs.Prelude.{ℕ, zero, suc, ◌+◌, ◌*◌, ◌/◌, ◌%◌, Bool, true, false, ◌&&◌, not, ◌==◌, nat_lt}
use Rattle.std.specs.Prelude.{if◌then◌else◌, List, [], ◌∷◌, ◌++◌, Option, Some, None, length, option_map}
use Rattle.std.specs.Prelude.{slice_index_or}
use Rattle.lfs_types.specs.declared.limits.TheConstants.{SEGMENT_BLOCKS}
use Rattle.lfs_segments.specs.declared.entry.SummaryEntry.{SummaryEntry}
use Rattle.lfs_segments.specs.Entry.{unused}
use Rattle.lfs_segments.specs.Memory.{SegmentMemory, log_start}
use Rattle.lfs_segments.specs.Serial.{Told}
use Rattle.lfs_recovery.specs.declared.places.PartialSegment.{PartialSegment}
use Rattle.lfs_recovery.specs.Whole.{is_inodes, whole_at}

-- How far the log of a segment is read: the serial and the entries of the last whole partial segment that began, how
-- many of its blocks went by, and whether the log has ended.
pub record Course : Type 0 where
  pub serial : ℕ
  pub entries : List SummaryEntry
  pub passed : ℕ
  pub ended : Bool

-- before the first log
abbrev pub idle : Course
idle = record { serial = 0; entries = []; passed = 0; ended = true }

-- where a log begins
abbrev pub start : Course
start = record { serial = 0; entries = []; passed = 0; ended = false }

-- whether the log of a segment begins at an address
abbrev pub begins_log : ℕ → Bool
begins_log address = address % SEGMENT_BLOCKS == log_start (address / SEGMENT_BLOCKS)

-- at an address, where a log may begin
unfoldable pub entered : ℕ → Course → Course
entered address c = if begins_log address then start else c

-- whether the block that comes is an inode block
unfoldable pub at_inodes : Course → Bool
at_inodes c = not c.ended && (nat_lt c.passed (length c.entries)
    && is_inodes (slice_index_or c.entries c.passed unused).block)

-- what the summary at an address tells, where a partial segment is to begin there, and a whole one does
unfoldable pub met : SegmentMemory → ℕ → Course → Option Told
met m address c =
    if c.ended then None
    else (if nat_lt c.passed (length c.entries) then None else whole_at m address c.serial)

-- the partial segment of a summary
abbrev pub partial_of : ℕ → Told → PartialSegment
partial_of address t = record { serial = t.serial; address = address; count = length t.entries }

unfoldable pub begun : SegmentMemory → ℕ → Course → Option PartialSegment
begun m address c = option_map (partial_of address) (met m address c)

-- where no whole partial segment begins, the log has ended
abbrev pub turned : Course → Option Told → Course
turned c None = record c { ended = true }
turned c (Some t) = record { serial = t.serial; entries = t.entries; passed = 0; ended = false }

-- behind the block at an address
unfoldable pub step : SegmentMemory → ℕ → Course → Course
step m address c =
    if c.ended then c
    else (if nat_lt c.passed (length c.entries) then record c { passed = c.passed + 1 }
    else turned c (whole_at m address c.serial))

-- before the block at an address, and what came there
unfoldable pub course : SegmentMemory → ℕ → Course
course m zero = entered zero idle
course m (suc address) = entered (suc address) (step m address (course m address))

-- a list of one, or of none
abbrev pub listed : {A : Type 0} → Option A → List A
listed None = []
listed (Some a) = a ∷ []

-- The whole partial segments that begin before an address.
unfoldable pub partials : SegmentMemory → ℕ → List PartialSegment
partials m zero = []
partials m (suc address) = partials m address ++ listed (begun m address (course m address))

-- the address behind the last block
abbrev pub end_of : SegmentMemory → ℕ
end_of m = m.segments * SEGMENT_BLOCKS
