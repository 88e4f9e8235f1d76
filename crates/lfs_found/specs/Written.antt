-- A partial segment is written, or a segment opened: what stays whole, and which record of a number is the latest then.
use Rattle.std.specs.Prelude.{◌≡◌, ◌≢◌, ℕ, ◌+◌, ◌/◌, ◌<◌, ◌≤◌, true, List, [], Option, Some, length}
use Rattle.lfs_types.specs.declared.limits.TheConstants.{SEGMENT_BLOCKS}
use Rattle.lfs_types.specs.Ranges.{least_segments, most_segments}
use Rattle.lfs_segments.specs.declared.entry.SummaryEntry.{SummaryEntry}
use Rattle.lfs_segments.specs.Log.{Expects, Extends}
use Rattle.lfs_segments.specs.Memory.{IsLaidOut, IsNextSerial, SegmentMemory, block_at, fresh_with, has_serials}
use Rattle.lfs_segments.specs.Memory.{log_start, next_address, opened}
use Rattle.lfs_segments.specs.Rising.{IsRising, IsRisingTo}
use Rattle.lfs_segments.specs.Serial.{Told, told_in}
use Rattle.lfs_recovery.specs.declared.places.RecordPlace.{RecordPlace}
use Rattle.lfs_recovery.specs.Newest.{slot_place}
use Rattle.lfs_recovery.specs.Whole.{ends_in_inodes, has_record}
use Rattle.lfs_found.specs.Found.{AreWhole, IsLatest, IsNamed}

-- A partial segment was written whole behind the log's end: a summary that tells this, with the next serial, and the
-- blocks of its entries, the last one an inode block with a record in its first slot. What was there stays, and the log
-- goes on with a summary.
pub record WritesPartial (m n : SegmentMemory) (t : Told) : Type 0 where
  pub ready : Expects m []
  pub again : Expects n []
  pub extends : Extends m n
  pub grown : next_address n ≡ next_address m + 1 + length t.entries
  pub told : told_in (block_at n (next_address m)) ≡ Some t
  pub serial : m.serial ≡ Some t.serial
  pub last : ends_in_inodes t.entries ≡ true
  pub record_there : has_record n (next_address m + length t.entries) ≡ true

-- a memory whose summaries have serials, which rise, and whose partial segments are whole
pub record IsFindable (m : SegmentMemory) (next : ℕ) : Type 0 where
  pub laid_out : IsLaidOut m
  pub kind : has_serials m ≡ true
  pub rising : IsRisingTo m next
  pub whole : AreWhole m

-- So is a volume that was just laid out, whose first summary gets serial 1.
abbrev pub FreshIsFindable : Type 0
FreshIsFindable = (segments inodes : ℕ) → least_segments ≤ segments → segments ≤ most_segments
    → IsFindable (fresh_with (Some 1) segments inodes) 1

-- Once a partial segment is written, all are whole.
abbrev pub WritesWhole : Type 0
WritesWhole = (m n : SegmentMemory) (t : Told) → IsFindable m t.serial → WritesPartial m n t → AreWhole n

-- A number of which it has no record keeps its latest one.
abbrev pub WritesKeep : Type 0
WritesKeep = (m n : SegmentMemory) (t : Told) (number : ℕ) (s : RecordPlace) → IsFindable m t.serial
    → WritesPartial m n t → IsLatest m number s
    → ((r : RecordPlace) → IsNamed n r → r.number ≡ number → r.serial ≢ t.serial) → IsLatest n number s

-- Of a number of which it has a record the last one there is the latest.
abbrev pub WritesLatest : Type 0
WritesLatest = (m n : SegmentMemory) (t : Told) (number : ℕ) (s : RecordPlace) → IsFindable m t.serial
    → WritesPartial m n t → IsNamed n s → s.number ≡ number → s.serial ≡ t.serial
    → ((r : RecordPlace) → IsNamed n r → r.number ≡ number → r.serial ≡ t.serial → slot_place r ≤ slot_place s)
    → IsLatest n number s

-- Where a segment is opened, all partial segments are whole still.
abbrev pub OpensWhole : Type 0
OpensWhole = (m : SegmentMemory) (next segment : ℕ) → IsFindable m next → segment < m.segments
    → AreWhole (opened m segment)

-- The latest record of a number stays so, if it stands in another segment.
abbrev pub OpensKeep : Type 0
OpensKeep = (m : SegmentMemory) (next segment number : ℕ) (s : RecordPlace) → IsFindable m next → segment < m.segments
    → IsLatest m number s → s.address / SEGMENT_BLOCKS ≢ segment → IsLatest (opened m segment) number s

-- what the next summary tells, with this serial and these entries
abbrev pub next_told : SegmentMemory → ℕ → List SummaryEntry → Told
next_told m serial entries = record { serial = serial; segment = m.active; offset = m.fill; entries = entries }

-- Where summaries have serials, a partial segment of these entries was written whole: its summary tells the next serial,
-- where it stands, and these entries.
pub record WritesEntries (m n : SegmentMemory) (entries : List SummaryEntry) : Type 0 where
  pub whole : (serial : ℕ) → m.serial ≡ Some serial → WritesPartial m n (next_told m serial entries)

-- Where summaries have serials, these rise and all partial segments are whole, until the last serial comes, 2 ^ 32 - 1,
-- which stays: so recovery finds all that was begun.
pub record IsRecoverable (m : SegmentMemory) : Type 0 where
  pub to : (next : ℕ) → m.serial ≡ Some next → next < 4294967295 → IsFindable m next

-- A volume that was just laid out is, whatever serial its first summary gets.
abbrev pub FreshIsRecoverable : Type 0
FreshIsRecoverable = (serial : Option ℕ) (segments inodes : ℕ) → IsNextSerial serial → least_segments ≤ segments
    → segments ≤ most_segments → IsRecoverable (fresh_with serial segments inodes)

-- It stays so when a partial segment is written whole, with a serial above all others.
abbrev pub WritesRecoverable : Type 0
WritesRecoverable = (m n : SegmentMemory) (entries : List SummaryEntry) → log_start m.active ≤ m.fill → IsLaidOut n
    → has_serials n ≡ has_serials m → IsRising n → WritesEntries m n entries → IsRecoverable m → IsRecoverable n

-- And when a segment is opened.
abbrev pub OpensRecoverable : Type 0
OpensRecoverable = (m : SegmentMemory) (segment : ℕ) → segment < m.segments → IsLaidOut (opened m segment)
    → IsRecoverable m → IsRecoverable (opened m segment)
