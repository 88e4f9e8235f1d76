-- What recovery finds of a log, in the words of whoever writes it: by its summaries.
use Rattle.std.specs.Prelude.{◌≡◌, ℕ, ◌+◌, ◌/◌, ◌<◌, ◌≤◌, ◌↔◌, true, [], Some, length}
use Rattle.lfs_types.specs.declared.limits.TheConstants.{SEGMENT_BLOCKS}
use Rattle.lfs_inodes.specs.Reading.{Fields, fields_in}
use Rattle.lfs_inodes.specs.Slots.{slot_of}
use Rattle.lfs_segments.specs.declared.entry.LogicalBlock.TheVariants.{Inodes}
use Rattle.lfs_segments.specs.declared.entry.SummaryEntry.{SummaryEntry}
use Rattle.lfs_segments.specs.Log.{Expects, entry_at}
use Rattle.lfs_segments.specs.Memory.{IsLaidOut, SegmentMemory, block_at, has_serials, next_address}
use Rattle.lfs_segments.specs.Rising.{IsRisingTo, IsSummaryAt}
use Rattle.lfs_segments.specs.Serial.{Told}
use Rattle.lfs_recovery.specs.declared.places.PartialSegment.{PartialSegment}
use Rattle.lfs_recovery.specs.declared.places.RecordPlace.{RecordPlace}
use Rattle.lfs_recovery.specs.Logs.{IsLogged}
use Rattle.lfs_recovery.specs.Newest.{IsNewest, IsNoNewer, IsRecord}
use Rattle.lfs_recovery.specs.Whole.{ends_in_inodes, has_record}

-- All blocks of each partial segment are there: the last one is an inode block, with a record in its first slot.
pub record AreWhole (m : SegmentMemory) : Type 0 where
  pub last : (a : ℕ) (t : Told) → IsSummaryAt m a t → ends_in_inodes t.entries ≡ true
  pub record_there : (a : ℕ) (t : Told) → IsSummaryAt m a t → has_record m (a + length t.entries) ≡ true

-- a summary of a log begins a partial segment
pub record IsBegun (m : SegmentMemory) (p : PartialSegment) : Type 0 where
  pub told : Told
  pub summary : IsSummaryAt m p.address told
  pub serial : told.serial ≡ p.serial
  pub count : length told.entries ≡ p.count

-- Whatever recovery finds in a log was begun there.
abbrev pub FindsBegun : Type 0
FindsBegun = (m : SegmentMemory) (p : PartialSegment) → has_serials m ≡ true → IsLogged m p → IsBegun m p

-- Where serials rise and all blocks are there, recovery finds each partial segment that was begun.
abbrev pub FindsAll : Type 0
FindsAll = (m : SegmentMemory) (next : ℕ) (p : PartialSegment) → has_serials m ≡ true → IsRisingTo m next → AreWhole m
    → IsBegun m p → IsLogged m p

-- Where the active segment has a partial segment, and its log goes on with a summary, the log ends behind the partial
-- segment of the highest serial: the end that recovery finds is the end.
abbrev pub FindsEnd : Type 0
FindsEnd = (m : SegmentMemory) (next : ℕ) (p last : PartialSegment) → has_serials m ≡ true → IsLaidOut m
    → IsRisingTo m next → AreWhole m → Expects m [] → IsBegun m p → p.address / SEGMENT_BLOCKS ≡ m.active
    → IsLogged m last → ((q : PartialSegment) → IsLogged m q → q.serial ≤ last.serial)
    → next_address m ≡ last.address + 1 + last.count

-- A record that the log names: its summary calls the block an inode block, and a slot of it reads as a record of this
-- number and version. Its serial is that of its partial segment.
pub record IsNamed (m : SegmentMemory) (r : RecordPlace) : Type 0 where
  pub segment : PartialSegment
  pub begun : IsBegun m segment
  pub serial : r.serial ≡ segment.serial
  pub behind : segment.address < r.address
  pub within : r.address ≤ segment.address + segment.count
  pub entry : SummaryEntry
  pub named : entry_at m r.address ≡ Some entry
  pub inodes : entry.block ≡ Inodes
  pub slot : r.slot < 4
  pub fields : Fields
  pub read : fields_in (slot_of (block_at m r.address) r.slot) ≡ Some fields
  pub number : r.number ≡ fields.attributes.number
  pub version : r.version ≡ fields.attributes.version

-- The records that recovery finds are those that the log names.
abbrev pub FindsRecords : Type 0
FindsRecords = (m : SegmentMemory) (next : ℕ) (r : RecordPlace) → has_serials m ≡ true → IsRisingTo m next → AreWhole m
    → IsRecord m r ↔ IsNamed m r

-- a record that the log names, of a number, is the newest of it: each other one has a lower serial, or the same one and
-- stands before it
pub record IsLatest (m : SegmentMemory) (n : ℕ) (s : RecordPlace) : Type 0 where
  pub named : IsNamed m s
  pub number : s.number ≡ n
  pub top : (r : RecordPlace) → IsNamed m r → r.number ≡ n → IsNoNewer r s

-- The newest record that recovery finds of a number is the latest that the log names.
abbrev pub FindsNewest : Type 0
FindsNewest = (m : SegmentMemory) (next n : ℕ) (s : RecordPlace) → has_serials m ≡ true → IsRisingTo m next → AreWhole m
    → IsNewest m n (Some s) ↔ IsLatest m n s

-- a number has one latest record
abbrev pub LatestIsOne : Type 0
LatestIsOne = (m : SegmentMemory) (n : ℕ) (r s : RecordPlace) → IsLatest m n r → IsLatest m n s → r ≡ s
