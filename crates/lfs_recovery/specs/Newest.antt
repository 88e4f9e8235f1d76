-- The records in the partial segments of the logs, and which of a number is the newest.
use Rattle.std.specs.Prelude.{◌≡◌, ℕ, ◌+◌, ◌*◌, ◌<◌, ◌≤◌, ◌⊎◌, Option, Some, None, slice_index_or}
use Rattle.lfs_inodes.specs.Reading.{Fields, fields_in}
use Rattle.lfs_inodes.specs.Slots.{slot_of}
use Rattle.lfs_segments.specs.declared.entry.LogicalBlock.TheVariants.{Inodes}
use Rattle.lfs_segments.specs.Entry.{unused}
use Rattle.lfs_segments.specs.Memory.{SegmentMemory, block_at}
use Rattle.lfs_segments.specs.Serial.{Told, told_in}
use Rattle.lfs_recovery.specs.declared.places.PartialSegment.{PartialSegment}
use Rattle.lfs_recovery.specs.declared.places.RecordPlace.{RecordPlace}
use Rattle.lfs_recovery.specs.Logs.{IsLogged}

-- A record stands in a slot of an inode block, as an entry of the summary of a partial segment in a log calls it. It has
-- the partial segment's serial, and the number and version that are spelled there.
pub record IsRecord (m : SegmentMemory) (r : RecordPlace) : Type 0 where
  pub segment : PartialSegment
  pub logged : IsLogged m segment
  pub told : Told
  pub spelled : told_in (block_at m segment.address) ≡ Some told
  pub entry : ℕ
  pub named : entry < segment.count
  pub inodes : (slice_index_or told.entries entry unused).block ≡ Inodes
  pub serial : r.serial ≡ segment.serial
  pub address : r.address ≡ segment.address + 1 + entry
  pub slot : r.slot < 4
  pub fields : Fields
  pub read : fields_in (slot_of (block_at m r.address) r.slot) ≡ Some fields
  pub number : r.number ≡ fields.attributes.number
  pub version : r.version ≡ fields.attributes.version

-- the place of a record among all slots of a memory
abbrev pub slot_place : RecordPlace → ℕ
slot_place r = 4 * r.address + r.slot

-- one record is no newer than another: its serial is lower, or it is the same and the record stands no later
abbrev pub IsNoNewer : RecordPlace → RecordPlace → Type 0
IsNoNewer r s = (r.serial < s.serial) ⊎ ((r.serial ≡ s.serial) × (slot_place r ≤ slot_place s))

-- the newest record of a number: one of its records, and no other is newer; or it has none
abbrev pub IsNewest : SegmentMemory → ℕ → Option RecordPlace → Type 0
IsNewest m n None = (r : RecordPlace) → IsRecord m r → r.number ≡ n → ⊥
IsNewest m n (Some s) =
    IsRecord m s × ((s.number ≡ n) × ((r : RecordPlace) → IsRecord m r → r.number ≡ n → IsNoNewer r s))
