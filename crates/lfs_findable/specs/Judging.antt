-- What is asked of the partial segments and of the newest records that recovery finds, for the functions within.
use Rattle.std.specs.Prelude.{◌≡◌, ◌≢◌, ℕ, ◌+◌, ◌*◌, ◌/◌, ◌<◌, ◌≤◌, ◌⊎◌, ◌↔◌, Bool, true, false, List, Option, Some}
use Rattle.std.specs.Prelude.{None, ⊤, length, slice_index_or}
use Rattle.std.specs.List.{Contains}
use Rattle.lfs_types.specs.declared.limits.TheConstants.{SEGMENT_BLOCKS}
use Rattle.lfs_segments.specs.Memory.{SegmentMemory, block_at}
use Rattle.lfs_segments.specs.Serial.{told_in}
use Rattle.lfs_ifile.specs.declared.inode.InodePlace.{InodePlace}
use Rattle.lfs_log.specs.Parts.{LogParts, record_place}
use Rattle.lfs_recovery.specs.declared.places.PartialSegment.{PartialSegment}
use Rattle.lfs_recovery.specs.declared.places.RecordPlace.{RecordPlace}
use Rattle.lfs_recovery.specs.Logs.{log_place}
use Rattle.lfs_found.specs.Written.{IsFindable}
use Rattle.lfs_segwrite.specs.Ordered.{HasLatest}

-- ---- partial segments

-- the blocks of a partial segment stand in the volume, and it has a serial
pub record IsProper (m : SegmentMemory) (p : PartialSegment) : Type 0 where
  pub inside : p.address + p.count < m.segments * SEGMENT_BLOCKS
  pub counted : 0 < p.serial

-- one of some partial segments begins at an address
abbrev pub BeginsAt : List PartialSegment → ℕ → Type 0
BeginsAt ps address = (p : PartialSegment) × (Contains ps p × (p.address ≡ address))

-- no summary stands at an address but that of one of them
abbrev pub IsNoOther : SegmentMemory → List PartialSegment → ℕ → Type 0
IsNoOther m ps address = BeginsAt ps address ⊎ (told_in (block_at m address) ≡ None)

-- the address behind a partial segment
abbrev pub place_behind : PartialSegment → ℕ
place_behind p = p.address + 1 + p.count

-- No other summary stands where the log of a segment begins, nor behind one of them in its segment: so the log of each
-- segment has no others.
pub record AreListed (m : SegmentMemory) (ps : List PartialSegment) : Type 0 where
  pub first : (segment : ℕ) → segment < m.segments → IsNoOther m ps (log_place segment)
  pub next : (p : PartialSegment) → Contains ps p → place_behind p / SEGMENT_BLOCKS ≡ p.address / SEGMENT_BLOCKS
      → IsNoOther m ps (place_behind p)

-- marks stand at the addresses at which they begin
abbrev pub MarksOf : List PartialSegment → List Bool → Type 0
MarksOf ps marks = (address : ℕ) → (slice_index_or marks address false ≡ true) ↔ BeginsAt ps address

-- no summary stands at an address without a mark
abbrev pub IsMarkedOrNone : SegmentMemory → List Bool → ℕ → Type 0
IsMarkedOrNone m marks address =
    (slice_index_or marks address false ≡ true) ⊎ (told_in (block_at m address) ≡ None)

abbrev pub AreFirstMarked : SegmentMemory → List Bool → Type 0
AreFirstMarked m marks = (segment : ℕ) → segment < m.segments → IsMarkedOrNone m marks (log_place segment)

abbrev pub IsNextMarked : SegmentMemory → List Bool → PartialSegment → Type 0
IsNextMarked m marks p = place_behind p / SEGMENT_BLOCKS ≡ p.address / SEGMENT_BLOCKS
    → IsMarkedOrNone m marks (place_behind p)

-- ---- serials

-- those that have the same serial are one
abbrev pub HaveOnePlace : List PartialSegment → Type 0
HaveOnePlace ps = (p q : PartialSegment) → Contains ps p → Contains ps q → p.serial ≡ q.serial → p.address ≡ q.address

-- serials are below the next one, those of the active segment are above those of all others, and no two are the same
pub record AreOrdered (active next : ℕ) (ps : List PartialSegment) : Type 0 where
  pub below : (p : PartialSegment) → Contains ps p → p.serial < next
  pub above : (p q : PartialSegment) → Contains ps p → Contains ps q → p.address / SEGMENT_BLOCKS ≢ active
      → q.address / SEGMENT_BLOCKS ≡ active → p.serial < q.serial
  pub apart : HaveOnePlace ps

-- one outside a segment has this serial
abbrev pub HasOutside : ℕ → List PartialSegment → ℕ → Type 0
HasOutside segment ps serial = (p : PartialSegment)
    × (Contains ps p × ((p.address / SEGMENT_BLOCKS ≢ segment) × (p.serial ≡ serial)))

-- the highest serial of those outside a segment, 0 where there are none
pub record IsHighestOutside (segment : ℕ) (ps : List PartialSegment) (highest : ℕ) : Type 0 where
  pub most : (p : PartialSegment) → Contains ps p → p.address / SEGMENT_BLOCKS ≢ segment → p.serial ≤ highest
  pub one : (highest ≡ 0) ⊎ HasOutside segment ps highest

-- a serial is below the next one, and in the active segment above the highest of the others
pub record IsInOrder (active next highest : ℕ) (p : PartialSegment) : Type 0 where
  pub below : p.serial < next
  pub above : p.address / SEGMENT_BLOCKS ≡ active → highest < p.serial

-- a place, if there is one, is another than an address
abbrev pub IsElsewhere : Option ℕ → ℕ → Type 0
IsElsewhere None address = ⊥
IsElsewhere (Some place) address = place ≢ address

-- ---- records

-- serials rise in a memory up to some, and its partial segments are whole
abbrev pub IsAnyFindable : SegmentMemory → Type 0
IsAnyFindable m = (next : ℕ) × IsFindable m next

-- the latest record of each number that has a place in the log stands there
abbrev pub AreLatest : LogParts → Type 0
AreLatest l = (number : ℕ) → number < length l.tables.rows → record_place l.tables number ≢ 0 → HasLatest l number

-- a place is that of a record
abbrev pub IsPlaceOf : InodePlace → Option RecordPlace → Type 0
IsPlaceOf place None = ⊥
IsPlaceOf place (Some newest) =
    (place.addr ≡ newest.address) × ((place.slot ≡ newest.slot) × (place.version ≡ newest.version))

-- a number that has a place in the log has its newest record there
abbrev pub StandsAt : Option InodePlace → Option RecordPlace → Type 0
StandsAt None newest = ⊤
StandsAt (Some place) newest = place.addr ≢ 0 → IsPlaceOf place newest
