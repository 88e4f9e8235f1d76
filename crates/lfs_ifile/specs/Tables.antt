-- what an ifile holds, and its changes at one place
use Rattle.std.specs.Prelude.{◌≡◌, ◌≢◌, ℕ, ◌*◌, ◌<◌, ◌≤◌, ◌⊎◌, List, length, replicate, slice_index, slice_index_or}
use Rattle.std.specs.Prelude.{slice_set, true, false, Option, All}
use Rattle.lfs_types.specs.declared.limits.TheConstants.{SEGMENT_BLOCKS, FIRST_INODE}
use Rattle.lfs_types.specs.Ranges.{least_segments, most_segments, least_inodes, most_inodes}
use Rattle.lfs_ifile.specs.declared.segment.TheConstants.{SEGMENT_BYTES}
use Rattle.lfs_ifile.specs.declared.segment.SegState.{SegState}
use Rattle.lfs_ifile.specs.declared.segment.SegState.TheVariants.{Clean}
use Rattle.lfs_ifile.specs.declared.segment.SegUse.{SegUse}
use Rattle.lfs_ifile.specs.declared.inode.InodeRow.{InodeRow}
use Rattle.lfs_ifile.specs.declared.inode.InodePlace.{InodePlace}
use Rattle.lfs_ifile.specs.Inode.{fresh_row, place_in, IsRow}

-- the live bytes and the state of each segment, and the row of each inode number
pub record Tables : Type 0 where
  pub live : List ℕ
  pub states : List SegState
  pub rows : List InodeRow

-- the number of blocks of the volume
abbrev pub blocks_of : Tables → ℕ
blocks_of tables = SEGMENT_BLOCKS * length tables.live

-- how a segment is used
abbrev pub usage_of : Tables → ℕ → SegUse
usage_of tables seg =
    record { live = slice_index tables.live seg; state = slice_index_or tables.states seg Clean }

-- the row at a place of the inode map
abbrev pub row_at : List InodeRow → ℕ → InodeRow
row_at rows ino = slice_index_or rows ino fresh_row

-- the row of an inode number
abbrev pub row_of : Tables → ℕ → InodeRow
row_of tables ino = row_at tables.rows ino

-- where the record of an inode number stands
abbrev pub place_of : Tables → ℕ → Option InodePlace
place_of tables ino = place_in (row_of tables ino)

-- the tables with one segment's live bytes changed
abbrev pub with_live : Tables → ℕ → ℕ → Tables
with_live tables seg live = record tables { live = slice_set tables.live seg live }

-- the tables with one segment's state changed
abbrev pub with_state : Tables → ℕ → SegState → Tables
with_state tables seg state = record tables { states = slice_set tables.states seg state }

-- the tables with one row changed
abbrev pub with_row : Tables → ℕ → InodeRow → Tables
with_row tables ino row = record tables { rows = slice_set tables.rows ino row }

-- everything stays but the live bytes of one segment
pub record KeepsButLive (seg : ℕ) (old new : Tables) : Type 0 where
  pub live : (other : ℕ) → other ≢ seg → slice_index new.live other ≡ slice_index old.live other
  pub segments : length new.live ≡ length old.live
  pub states : new.states ≡ old.states
  pub rows : new.rows ≡ old.rows

-- everything stays but the state of one segment
pub record KeepsButState (seg : ℕ) (old new : Tables) : Type 0 where
  pub live : new.live ≡ old.live
  pub states : (other : ℕ) → other ≢ seg → (usage_of new other).state ≡ (usage_of old other).state
  pub rows : new.rows ≡ old.rows

-- everything stays but the row of one inode number
pub record KeepsButRow (ino : ℕ) (old new : Tables) : Type 0 where
  pub live : new.live ≡ old.live
  pub states : new.states ≡ old.states
  pub rows : (other : ℕ) → other ≢ ino → row_of new other ≡ row_of old other
  pub inodes : length new.rows ≡ length old.rows

-- the numbers from `low` up and below `high` are used
abbrev pub AreUsed : List InodeRow → ℕ → ℕ → Type 0
AreUsed rows low high = (ino : ℕ) → low ≤ ino → ino < high → (row_at rows ino).used ≡ true

-- the least unused number of those that a file may get
pub record IsLeastFree (rows : List InodeRow) (ino : ℕ) : Type 0 where
  pub from_first : FIRST_INODE ≤ ino
  pub in_range : ino < length rows
  pub unused : (row_at rows ino).used ≡ false
  pub used_below : AreUsed rows FIRST_INODE ino

-- no segment from `low` up and below `high` is clean
abbrev pub AreUnclean : List SegState → ℕ → ℕ → Type 0
AreUnclean states low high = (seg : ℕ) → low ≤ seg → seg < high
    → slice_index_or states seg Clean ≢ Clean

-- the first clean segment
pub record IsFirstClean (tables : Tables) (seg : ℕ) : Type 0 where
  pub in_range : seg < length tables.live
  pub clean : (usage_of tables seg).state ≡ Clean
  pub unclean_below : AreUnclean tables.states 0 seg

-- what holds of every ifile
pub record IsIfile (tables : Tables) : Type 0 where
  pub segments_least : least_segments ≤ length tables.live
  pub segments_most : length tables.live ≤ most_segments
  pub states_length : length tables.states ≡ length tables.live
  pub inodes_least : least_inodes ≤ length tables.rows
  pub inodes_most : length tables.rows ≤ most_inodes
  pub live_bytes : All (λ live. live ≤ SEGMENT_BYTES) tables.live
  pub each_row : All (IsRow (blocks_of tables)) tables.rows

-- a new ifile: every segment clean with no live bytes, no number used
abbrev pub fresh_tables : ℕ → ℕ → Tables
fresh_tables segments inodes =
    record { live = replicate segments 0; states = replicate segments Clean; rows = replicate inodes fresh_row }

-- too few segments, or, with segments in their range, too few inode numbers
abbrev pub IsTooFew : ℕ → ℕ → Type 0
IsTooFew segments inodes =
    (segments < least_segments) ⊎ ((segments ≤ most_segments) × (inodes < least_inodes))

-- too many segments, or, with segments in their range, too many inode numbers
abbrev pub IsTooMany : ℕ → ℕ → Type 0
IsTooMany segments inodes =
    (most_segments < segments) ⊎ ((least_segments ≤ segments) × (most_inodes < inodes))
