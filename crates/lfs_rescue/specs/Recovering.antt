-- What is found of a volume in its blocks.
use Rattle.std.specs.Prelude.{◌≡◌, ◌≢◌, ℕ, ◌+◌, ◌*◌, ◌/◌, ◌<◌, ◌≤◌, ◌↔◌, List, Option, Some, None, IsSome}
use Rattle.std.specs.Prelude.{⊤, nat_lt, if◌then◌else◌, length, slice_index_or}
use Rattle.std.specs.List.{Contains}
use Rattle.lfs_types.specs.declared.limits.TheConstants.{SEGMENT_BLOCKS}
use Rattle.lfs_types.specs.Blocks.{zero_block}
use Rattle.lfs_types.specs.Ranges.{most_inodes}
use Rattle.lfs_segments.specs.Memory.{SegmentMemory, block_at, next_address}
use Rattle.lfs_ifile.specs.declared.inode.InodePlace.{InodePlace}
use Rattle.lfs_ifile.specs.declared.segment.SegState.TheVariants.{Clean}
use Rattle.lfs_ifile.specs.Tables.{place_of, row_of}
use Rattle.lfs_log.specs.Parts.{LogParts, live_of, state_of}
use Rattle.lfs_recovery.specs.declared.places.PartialSegment.{PartialSegment}
use Rattle.lfs_recovery.specs.declared.places.RecordPlace.{RecordPlace}
use Rattle.lfs_recovery.specs.Logs.{IsLogged, log_place}
use Rattle.lfs_recovery.specs.Newest.{IsNewest}
use Rattle.lfs_reach.specs.Reach.{Reaches}
use Rattle.lfs_rescue.specs.declared.fault.RecoverFault.{RecoverFault}
use Rattle.lfs_rescue.specs.declared.fault.RecoverFault.TheVariants.{Empty, Volume, Number, LastSerial, Length, Memory}

-- ---- what callers see

-- a number that is in use has the place and the version of its newest record
abbrev pub HasNewest : Option InodePlace → Option RecordPlace → Type 0
HasNewest None newest = ⊤
HasNewest (Some place) None = ⊥
HasNewest (Some place) (Some newest) =
    (place.addr ≡ newest.address) × ((place.slot ≡ newest.slot) × (place.version ≡ newest.version))

-- the version of a newest record, 0 where there is none
abbrev pub newest_version : Option RecordPlace → ℕ
newest_version None = 0
newest_version (Some newest) = newest.version

-- an address stands behind the end of the log
abbrev pub IsBehind : SegmentMemory → ℕ → Type 0
IsBehind m address = (address / SEGMENT_BLOCKS ≡ m.active) × (next_address m ≤ address)

-- an address stands behind each partial segment in the log of its segment
pub record IsPastLog (m : SegmentMemory) (address : ℕ) : Type 0 where
  pub from : log_place (address / SEGMENT_BLOCKS) ≤ address
  pub past : (p : PartialSegment) → IsLogged m p → p.address / SEGMENT_BLOCKS ≡ address / SEGMENT_BLOCKS
      → p.address + p.count < address

-- What a memory has at an address is left over: it stands behind the log of a segment that is clean now, as what a crash
-- tore there.
pub record IsLeftOver (m : SegmentMemory) (l : LogParts) (address : ℕ) : Type 0 where
  pub clean : state_of l.tables (address / SEGMENT_BLOCKS) ≡ Clean
  pub past : IsPastLog m address

-- a block is as it was; behind the end of the log, and in place of what is left over, there are zeros
pub record IsKept (m : SegmentMemory) (l : LogParts) (address : ℕ) : Type 0 where
  pub same : (IsBehind l.memory address → ⊥) → (IsLeftOver m l address → ⊥)
      → block_at l.memory address ≡ block_at m address
  pub zeros : IsBehind l.memory address → block_at l.memory address ≡ zero_block
  pub wiped : IsLeftOver m l address → block_at l.memory address ≡ zero_block

-- the last serial, 2 ^ 32 - 1, which each summary gets from then on: so it doesn't tell which is the newest
abbrev pub last_serial : ℕ
last_serial = 4294967295

-- the next summary gets the serial behind the last one
abbrev pub GoesOn : Option ℕ → ℕ → Type 0
GoesOn None last = ⊥
GoesOn (Some serial) last = serial ≡ last + 1

-- A segment is clean exactly where none of its bytes are live; the active one never is.
abbrev pub IsGivenBack : LogParts → ℕ → Type 0
IsGivenBack l segment = segment ≢ l.memory.active
    → (state_of l.tables segment ≡ Clean) ↔ (live_of l.tables segment ≡ 0)

-- a log ends behind a partial segment, whose segment is the active one, and its next summary gets the serial behind that
pub record EndsBehind (last : PartialSegment) (m : SegmentMemory) : Type 0 where
  pub active : m.active ≡ last.address / SEGMENT_BLOCKS
  pub end : next_address m ≡ last.address + 1 + last.count
  pub serial : GoesOn m.serial last.serial

-- A log is what a memory of blocks tells. Of each number there is one newest record; a number is in use exactly where
-- names lead to it from the root on, and then has its newest record. The log ends behind the partial segment of the
-- highest serial, which isn't the last serial that there is, and goes on with the serial behind that. All other blocks
-- are the memory's, but that zeros stand behind the logs of clean segments too. Each other segment in which nothing is
-- live is clean, and a number that is free keeps the version of its newest record, which it goes on from when it is given
-- out again.
pub record IsRecovered (m : SegmentMemory) (l : LogParts) : Type 0 where
  pub places : List (Option RecordPlace)
  pub newest : (n : ℕ) → n < most_inodes → IsNewest m n (slice_index_or places n None)
  pub named : (n : ℕ) → n < length l.tables.rows → IsSome (place_of l.tables n) ↔ Reaches m places n
  pub placed : (n : ℕ) → n < length l.tables.rows → HasNewest (place_of l.tables n) (slice_index_or places n None)
  pub versions : (n : ℕ) → n < length l.tables.rows
      → (row_of l.tables n).version ≡ newest_version (slice_index_or places n None)
  pub last : PartialSegment
  pub logged : IsLogged m last
  pub latest : (p : PartialSegment) → IsLogged m p → p.serial ≤ last.serial
  pub counted : last.serial < last_serial
  pub ends : EndsBehind last l.memory
  pub segments : l.memory.segments ≡ m.segments
  pub given_back : (segment : ℕ) → segment < l.memory.segments → IsGivenBack l segment
  pub kept : (address : ℕ) → address < m.segments * SEGMENT_BLOCKS → IsKept m l address

-- Two memories tell the same: their logs have the same partial segments, and each number has the same newest record. So
-- what is recovered can be recovered again.
pub record TellsTheSame (old new : SegmentMemory) : Type 0 where
  pub logged : (p : PartialSegment) → IsLogged new p ↔ IsLogged old p
  pub newest : (n : ℕ) (r : Option RecordPlace) → IsNewest new n r ↔ IsNewest old n r

-- a log has a partial segment, and none has the last serial: so there is one of the highest serial, which is the newest
pub record HasEnd (m : SegmentMemory) : Type 0 where
  pub last : PartialSegment
  pub logged : IsLogged m last
  pub latest : (p : PartialSegment) → IsLogged m p → p.serial ≤ last.serial
  pub counted : last.serial < last_serial

-- What a fault says of a memory: Empty, that no log has a partial segment; LastSerial, that one has the last serial; the
-- others, that neither is so. Want of memory says nothing.
abbrev pub IsRecoverFaultOf : SegmentMemory → RecoverFault → Type 0
IsRecoverFaultOf m Empty = (p : PartialSegment) → IsLogged m p → ⊥
IsRecoverFaultOf m (Volume fault) = HasEnd m
IsRecoverFaultOf m (Number number) = HasEnd m
IsRecoverFaultOf m LastSerial = (p : PartialSegment) × (IsLogged m p × (p.serial ≡ last_serial))
IsRecoverFaultOf m Length = ⊥
IsRecoverFaultOf m Memory = ⊤

-- ---- for the functions within

-- so is each segment
abbrev pub AreGivenBack : LogParts → Type 0
AreGivenBack l = (segment : ℕ) → segment < l.memory.segments → IsGivenBack l segment

-- and each block
abbrev pub AreKept : SegmentMemory → LogParts → Type 0
AreKept m l = (address : ℕ) → address < m.segments * SEGMENT_BLOCKS → IsKept m l address

-- the one of the higher serial
abbrev pub later : Option PartialSegment → PartialSegment → PartialSegment
later None p = p
later (Some last) p = if nat_lt p.serial last.serial then last else p

-- one of the highest serial, if there is any
abbrev pub IsLastOf : List PartialSegment → Option PartialSegment → Type 0
IsLastOf ps None = (p : PartialSegment) → Contains ps p → ⊥
IsLastOf ps (Some last) = Contains ps last × ((p : PartialSegment) → Contains ps p → p.serial ≤ last.serial)
