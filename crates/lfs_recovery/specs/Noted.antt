-- The records as the reader meets them, and what is noted of each number so far.
use Rattle.std.specs.Prelude.{◌≡◌, ℕ, zero, suc, ◌<◌, ◌==◌, nat_lt, if◌then◌else◌, List, [], ◌∷◌, ◌++◌, Option}
use Rattle.std.specs.Prelude.{Some, None, length, option_map, slice_index_or}
use Rattle.lfs_types.specs.Ranges.{most_inodes}
use Rattle.lfs_inodes.specs.Reading.{Fields, fields_in}
use Rattle.lfs_inodes.specs.Slots.{slot_of}
use Rattle.lfs_segments.specs.Memory.{SegmentMemory, block_at}
use Rattle.lfs_recovery.specs.declared.places.RecordPlace.{RecordPlace}
use Rattle.lfs_recovery.specs.Course.{Course, at_inodes, course, listed}

-- the place of a record with these fields
abbrev pub place_of : ℕ → ℕ → ℕ → Fields → RecordPlace
place_of serial address slot f = record {
  serial = serial;
  number = f.attributes.number;
  version = f.attributes.version;
  address = address;
  slot = slot;
}

-- the records in the first slots of an inode block
unfoldable pub places_in : ℕ → ℕ → List ℕ → ℕ → List RecordPlace
places_in serial address block zero = []
places_in serial address block (suc slot) =
    places_in serial address block slot
    ++ listed (option_map (place_of serial address slot) (fields_in (slot_of block slot)))

-- those of the block at an address, where the log names an inode block there
unfoldable pub records_at : SegmentMemory → ℕ → Course → List RecordPlace
records_at m address c = if at_inodes c then places_in c.serial address (block_at m address) 4 else []

-- The records in whole partial segments before an address, in the order of their addresses and slots.
unfoldable pub records : SegmentMemory → ℕ → List RecordPlace
records m zero = []
records m (suc address) = records m address ++ records_at m address (course m address)

-- The newer of two records: that of the higher serial. Of one partial segment it is the later one.
abbrev pub newer : Option RecordPlace → RecordPlace → RecordPlace
newer None place = place
newer (Some old) place = if nat_lt place.serial old.serial then old else place

unfoldable pub newest_from : ℕ → Option RecordPlace → List RecordPlace → Option RecordPlace
newest_from number noted [] = noted
newest_from number noted (place ∷ places) =
    newest_from number (if place.number == number then Some (newer noted place) else noted) places

-- the newest of the records of a number
abbrev pub newest : ℕ → List RecordPlace → Option RecordPlace
newest number places = newest_from number None places

-- a table of the newest records of all numbers
pub record IsTable (table : List (Option RecordPlace)) (places : List RecordPlace) : Type 0 where
  pub long : length table ≡ most_inodes
  pub each : (n : ℕ) → n < most_inodes → slice_index_or table n None ≡ newest n places
