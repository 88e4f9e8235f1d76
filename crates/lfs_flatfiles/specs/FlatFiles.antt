-- The plain store: a list of places, one for each inode number, seen as a finite map.
use Rattle.std.specs.Prelude.{ℕ, true, false, zero, suc, ◌+◌, ◌<◌, ◌≤◌, List, [], ◌∷◌, length, Option, None, IsSome}
use Rattle.std.specs.Prelude.{option_map}
use Rattle.std.specs.FinMap as map
use Rattle.lfs_types.specs.Tree.{File, Content, content_with, file_of, opening_content}
use Rattle.lfs_types.specs.StoreStates.{Shape, StoreState}
use Rattle.lfs_types.specs.declared.limits.TheConstants.{FILE_BYTES}
use Rattle.lfs_types.specs.Ranges.{most_segments}
use Rattle.lfs_types.specs.Splicing.{splice, resized}
use Rattle.lfs_types.specs.declared.attrs.Attrs.{Attrs}
use Rattle.lfs_types.specs.declared.store.Change.{Change}
use Rattle.lfs_types.specs.declared.store.Change.TheVariants.{Make, Remove, SetAttrs, Put, SetLength}
use Rattle.lfs_flatfiles.specs.declared.flat_files.place.Place.{Place}

-- the file at a place, if there is one
abbrev pub file_at : Place → Option File
file_at p = option_map (λ a. file_of a p.bytes.items) p.attrs

-- the files at places, the first of which has this number
abbrev pub content_from : ℕ → List Place → Content
content_from first [] = map.empty
content_from first (p ∷ ps) = content_with first (file_at p) (content_from (first + 1) ps)

-- what the places of a store contain
abbrev pub content_of : List Place → Content
content_of ps = content_from 0 ps

-- the shape of a store of so many places, which has as many segments as a volume may have; its changes take memory
abbrev pub shape_of : ℕ → Shape
shape_of numbers = record { numbers = numbers; segments = most_segments; can_lack_memory = true; has_share = false }

-- a store of so many places, all of whose segments are clean; it tells no base
abbrev pub state_of : ℕ → List Place → StoreState
state_of numbers ps = record { content = content_of ps; clean = most_segments; shape = shape_of numbers; base = None }

-- a fresh store with so many inode numbers
abbrev pub opening_state : ℕ → StoreState
opening_state numbers = record {
  content = opening_content;
  clean = most_segments;
  shape = shape_of numbers;
  base = None;
}

-- the file of a number, if there is one
abbrev pub file_in : List Place → ℕ → Option File
file_in [] ino = None
file_in (p ∷ ps) zero = file_at p
file_in (p ∷ ps) (suc ino) = file_in ps ino

-- how many bytes the place of a number has room for
abbrev pub room_in : List Place → ℕ → ℕ
room_in [] ino = 0
room_in (p ∷ ps) zero = p.bytes.cap
room_in (p ∷ ps) (suc ino) = room_in ps ino

-- where bytes that are put at a place end, 0 if there are none
abbrev pub end_of : ℕ → List ℕ → ℕ
end_of off [] = 0
end_of off (b ∷ bs) = off + length (b ∷ bs)

-- a file with other attributes
abbrev pub with_attrs : Attrs → File → File
with_attrs attrs f = file_of attrs f.bytes

-- a file with bytes put into it
abbrev pub with_bytes : ℕ → List ℕ → File → File
with_bytes off bytes f = record f { bytes = splice f.bytes off bytes }

-- a file of another length
abbrev pub with_length : ℕ → File → File
with_length len f = record f { bytes = resized f.bytes len }

-- a change names a place and ends within the limit of a file
abbrev pub IsInReach : ℕ → Change → Type 0
IsInReach numbers (Make ino attrs) = ino < numbers
IsInReach numbers (Remove ino) = ino < numbers
IsInReach numbers (SetAttrs ino attrs) = ino < numbers
IsInReach numbers (Put ino off bytes) = (ino < numbers) × (end_of off bytes.now ≤ FILE_BYTES)
IsInReach numbers (SetLength ino len) = (ino < numbers) × (len ≤ FILE_BYTES)

-- there is room for what a change puts
abbrev pub HasRoom : List Place → Change → Type 0
HasRoom ps (Make ino attrs) = Unit {0}
HasRoom ps (Remove ino) = Unit {0}
HasRoom ps (SetAttrs ino attrs) = Unit {0}
HasRoom ps (Put ino off bytes) = end_of off bytes.now ≤ room_in ps ino
HasRoom ps (SetLength ino len) = len ≤ room_in ps ino

-- a number among so many has a file
pub record HasFile (numbers : ℕ) (ps : List Place) (ino : ℕ) : Type 0 where
  pub within : ino < numbers
  pub used : IsSome (file_in ps ino)

-- a number among so many has a file that may have so many bytes, and there is room for them
pub record CanHold (numbers : ℕ) (ps : List Place) (ino : ℕ) (count : ℕ) : Type 0 where
  pub within : ino < numbers
  pub used : IsSome (file_in ps ino)
  pub reach : count ≤ FILE_BYTES
  pub room : count ≤ room_in ps ino

-- no place loses room
abbrev pub KeepsRoom : List Place → List Place → Type 0
KeepsRoom old new = (ino : ℕ) → room_in old ino ≤ room_in new ino
