-- What is built of what recovery finds in a volume's blocks.
use Rattle.std.specs.Prelude.{◌≡◌, ◌≢◌, ℕ, ◌+◌, ◌*◌, ◌/◌, ◌<◌, ◌≤◌, ◌⊎◌, ◌↔◌, ◌==◌, Bool, true, false, List}
use Rattle.std.specs.Prelude.{Option, Some, None, IsSome, length, slice_index, slice_index_or, if◌then◌else◌, ⊤}
use Rattle.lfs_types.specs.declared.limits.TheConstants.{SEGMENT_BLOCKS}
use Rattle.lfs_types.specs.Blocks.{zero_block}
use Rattle.lfs_types.specs.Ranges.{least_inodes, most_inodes}
use Rattle.lfs_segments.specs.Memory.{IsLaidOut, SegmentMemory, block_at, label}
use Rattle.lfs_ifile.specs.declared.inode.InodeRow.{InodeRow}
use Rattle.lfs_ifile.specs.declared.segment.SegState.{SegState}
use Rattle.lfs_ifile.specs.declared.segment.SegState.TheVariants.{Active, Clean, Dirty}
use Rattle.lfs_ifile.specs.Inode.{fresh_row}
use Rattle.lfs_ifile.specs.Tables.{Tables, row_of}
use Rattle.lfs_log.specs.Parts.{IsParts, LogParts, state_of}
use Rattle.lfs_recovery.specs.declared.places.PartialSegment.{PartialSegment}
use Rattle.lfs_recovery.specs.declared.places.RecordPlace.{RecordPlace}
use Rattle.lfs_recovery.specs.Logs.{IsLogged, log_place}
use Rattle.lfs_recovery.specs.Newest.{IsNewest}
use Rattle.lfs_reach.specs.Reach.{Reaches}
use Rattle.lfs_types.specs.StoreStates.{StoreState}
use Rattle.lfs_trees.specs.declared.fault.TreeFault.{TreeFault}
use Rattle.lfs_trees.specs.declared.fault.TreeFault.TheVariants as tree_fault
use Rattle.lfs_trees.specs.Faults.{IsTreeFaultOf}
use Rattle.lfs_fsck.specs.declared.fault.LogFault.{LogFault}
use Rattle.lfs_fsck.specs.declared.fault.LogFault.TheVariants as log_fault
use Rattle.lfs_fsck.specs.Faults.{IsFileFaultOf}
use Rattle.lfs_rescue.specs.declared.fault.RecoverFault.{RecoverFault}
use Rattle.lfs_rescue.specs.declared.fault.RecoverFault.TheVariants.{Empty, Volume, Number, LastSerial, Length, Memory}
use Rattle.lfs_rescue.specs.Contents.{IsLeftOfNone}
use Rattle.lfs_rescue.specs.Recovering.{EndsBehind, last_serial}

-- Recovery found this in a memory of blocks: the newest record of each number, whether names lead to it, and the partial
-- segment of the highest serial, which isn't the last serial; and block 0 is the label of so many inode numbers.
pub record IsFoundOf (m : SegmentMemory) (last : PartialSegment) (places : List (Option RecordPlace)) (marks : List Bool)
    (inodes : ℕ) : Type 0 where
  pub laid_out : IsLaidOut m
  pub logged : IsLogged m last
  pub latest : (p : PartialSegment) → IsLogged m p → p.serial ≤ last.serial
  pub counted : last.serial < last_serial
  pub places_long : length places ≡ most_inodes
  pub newest : (n : ℕ) → n < most_inodes → IsNewest m n (slice_index_or places n None)
  pub marks_long : length marks ≡ most_inodes
  pub reached : (n : ℕ) → (slice_index_or marks n false ≡ true) ↔ Reaches m places n
  pub least : least_inodes ≤ inodes
  pub most : inodes ≤ most_inodes
  pub labelled : block_at m 0 ≡ label m.segments inodes

-- the numbers that names lead to have a record
abbrev pub HaveRecords : List (Option RecordPlace) → List Bool → ℕ → Type 0
HaveRecords places marks inodes = (n : ℕ) → n < inodes → slice_index_or marks n false ≡ true
    → IsSome (slice_index_or places n None)

-- a place has one of the four slots of a block
abbrev pub HasSlot : Option RecordPlace → Type 0
HasSlot None = ⊤
HasSlot (Some newest) = newest.slot < 4

-- the row of a number: the place of its newest record where names lead to it, else its version alone
abbrev pub row_told : Option RecordPlace → Bool → InodeRow
row_told None named = fresh_row
row_told (Some newest) true =
    record { used = true; address = newest.address; slot = newest.slot; version = newest.version }
row_told (Some newest) false = record { used = false; address = 0; slot = 0; version = newest.version }

-- the state of a segment with so many live bytes, where one is active
abbrev pub state_told : ℕ → ℕ → ℕ → SegState
state_told active segment live =
    if segment == active then Active else (if live == 0 then Clean else Dirty)

-- one of the partial segments in the log of a segment ends right before an address
abbrev pub EndsOne : SegmentMemory → ℕ → ℕ → Type 0
EndsOne m segment end = (p : PartialSegment)
    × (IsLogged m p × ((p.address / SEGMENT_BLOCKS ≡ segment) × (end ≡ p.address + p.count + 1)))

-- the log of a segment ends behind its last partial segment, or where it begins, if it has none
pub record IsLogEnd (m : SegmentMemory) (segment end : ℕ) : Type 0 where
  pub from : log_place segment ≤ end
  pub past : (p : PartialSegment) → IsLogged m p → p.address / SEGMENT_BLOCKS ≡ segment → p.address + p.count < end
  pub one : (end ≡ log_place segment) ⊎ EndsOne m segment end

-- Where zeros begin in a segment: behind a partial segment in that one's, which is active; behind its log where nothing
-- is live in it; and nowhere in another one.
pub record IsZerosFrom (m : SegmentMemory) (last : PartialSegment) (live : List ℕ) (segment from : ℕ) : Type 0 where
  pub active : segment ≡ last.address / SEGMENT_BLOCKS → from ≡ last.address + last.count + 1
  pub empty : segment ≢ last.address / SEGMENT_BLOCKS → slice_index live segment ≡ 0 → IsLogEnd m segment from
  pub used : segment ≢ last.address / SEGMENT_BLOCKS → slice_index live segment ≢ 0
      → (segment + 1) * SEGMENT_BLOCKS ≤ from

-- a block is as it was, but zeros from an address on
pub record IsBlockFrom (m : SegmentMemory) (from address : ℕ) (block : List ℕ) : Type 0 where
  pub same : address < from → block ≡ block_at m address
  pub zeros : from ≤ address → block ≡ zero_block

-- or from where zeros begin in its segment
pub record IsToldAt (m : SegmentMemory) (last : PartialSegment) (live : List ℕ) (address : ℕ) (block : List ℕ) : Type 0 where
  pub from : ℕ
  pub is : IsZerosFrom m last live (address / SEGMENT_BLOCKS) from
  pub told : IsBlockFrom m from address block

-- so is each
abbrev pub AreTold : SegmentMemory → PartialSegment → List ℕ → SegmentMemory → Type 0
AreTold m last live n = (address : ℕ) → address < m.segments * SEGMENT_BLOCKS
    → IsToldAt m last live address (block_at n address)

-- the tables with these live bytes, states and rows
abbrev pub tables_of : List ℕ → List SegState → List InodeRow → Tables
tables_of live states rows = record { live = live; states = states; rows = rows }

-- A log was built of what was found, with these live bytes.
pub record IsBuilt (m : SegmentMemory) (last : PartialSegment) (places : List (Option RecordPlace)) (marks : List Bool)
    (inodes : ℕ) (live : List ℕ) (l : LogParts) : Type 0 where
  pub parts : IsParts l
  pub segments : l.memory.segments ≡ m.segments
  pub ends : EndsBehind last l.memory
  pub told : AreTold m last live l.memory
  pub counts : l.tables.live ≡ live
  pub states : (s : ℕ) → s < m.segments → state_of l.tables s ≡ state_told l.memory.active s (slice_index live s)
  pub many : length l.tables.rows ≡ inodes
  pub rows : (n : ℕ) → n < inodes
      → row_of l.tables n ≡ row_told (slice_index_or places n None) (slice_index_or marks n false)

-- what a fault of the volume that is built says of a memory: that it is left of no store
abbrev pub IsBuildFault : SegmentMemory → RecoverFault → Type 0
IsBuildFault m Empty = ⊥
IsBuildFault m (Volume fault) = IsLeftOfNone m
IsBuildFault m (Number number) = IsLeftOfNone m
IsBuildFault m LastSerial = ⊥
IsBuildFault m Length = ⊥
IsBuildFault m Memory = ⊤

-- a fault of the files or the end of a log, or want of memory
abbrev pub IsFilesFault : LogParts → RecoverFault → Type 0
IsFilesFault l Memory = ⊤
IsFilesFault l (Volume fault) = (log : LogFault) × (IsFileFaultOf l log × (log ≡ log_fault.Memory → ⊥))
IsFilesFault l Empty = ⊥
IsFilesFault l (Number number) = ⊥
IsFilesFault l LastSerial = ⊥
IsFilesFault l Length = ⊥

-- a fault of the names of a store, or want of memory
abbrev pub IsNamesFault : StoreState → RecoverFault → Type 0
IsNamesFault s Memory = ⊤
IsNamesFault s (Volume fault) =
    (tree : TreeFault) × (IsTreeFaultOf s.content tree × (tree ≡ tree_fault.Memory → ⊥))
IsNamesFault s Empty = ⊥
IsNamesFault s (Number number) = ⊥
IsNamesFault s LastSerial = ⊥
IsNamesFault s Length = ⊥
