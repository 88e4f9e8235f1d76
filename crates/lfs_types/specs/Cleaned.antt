-- What holds of every store that a cleaner cleans: its faults, and what becomes clean.
use Rattle.std.specs.Prelude.{ℕ, ◌+◌, ◌*◌, List, Result}
use Rattle.lfs_types.specs.StoreStates.{Shape, StoreState}
use Rattle.lfs_types.specs.declared.cleaner.BlockInfo.{BlockInfo}
use Rattle.lfs_types.specs.declared.cleaner.CleanFault.{CleanFault}
use Rattle.lfs_types.specs.declared.cleaner.CleanFault.TheVariants.{NoSuchSegment, Active, NotDirty, Live, NoSpace, NotGainful}

-- What the calls of a store's cleaner may answer: whether bytes are those of the ifile; whether a call for the infos of
-- a segment may have this result, and leave this list; whether infos become these, each with its present address;
-- whether blocks may be written again, a segment be made clean, and room be gained, with this result, from one state of
-- the store to another.
pub record CleanerCalls (F : Type 0) : Type 1 where
  pub gives_ifile : F → List ℕ → Type 0
  pub gives_infos : F → ℕ → Result (Unit {0}) CleanFault → List BlockInfo → Type 0
  pub gives_addresses : F → List BlockInfo → List BlockInfo → Type 0
  pub writes_again : F → List BlockInfo → Result ℕ CleanFault → F → Type 0
  pub reclaims : F → ℕ → Result (Unit {0}) CleanFault → F → Type 0
  pub gains : F → Result (Unit {0}) CleanFault → F → Type 0

-- how many bytes an ifile has: a header, and an entry for each segment and for each inode number
abbrev pub ifile_size : Shape → ℕ
ifile_size shape = 12 + 8 * shape.segments + 12 * shape.numbers

-- the faults of a call for a segment's infos
abbrev pub IsListingFault : CleanFault → Type 0
IsListingFault NoSuchSegment = Unit {0}
IsListingFault Active = Unit {0}
IsListingFault NotDirty = Unit {0}
IsListingFault fault = ⊥

-- the fault of a call that writes blocks again
abbrev pub IsMarkingFault : CleanFault → Type 0
IsMarkingFault NoSpace = Unit {0}
IsMarkingFault fault = ⊥

-- the faults of a call that makes a segment clean
abbrev pub IsReclaimFault : CleanFault → Type 0
IsReclaimFault NoSuchSegment = Unit {0}
IsReclaimFault Active = Unit {0}
IsReclaimFault NotDirty = Unit {0}
IsReclaimFault (Live bytes) = Unit {0}
IsReclaimFault fault = ⊥

-- the fault of a call that cleans a segment for room
abbrev pub IsGainFault : CleanFault → Type 0
IsGainFault NotGainful = Unit {0}
IsGainFault fault = ⊥

-- the same store with one more clean segment
abbrev pub with_clean_segment : StoreState → StoreState
with_clean_segment s = record s { clean = s.clean + 1 }
