-- What a store shows of its content.
use Rattle.std.specs.Prelude.{◌≡◌, ℕ, ◌<◌, ◌≤◌, List, [], ◌++◌, length, take, drop, Option, None, Some}
use Rattle.std.specs.Prelude.{IsSome, option_map}
use Rattle.std.specs.FinMap as map
use Rattle.lfs_types.specs.Tree.{File, Content, attrs_of}
use Rattle.lfs_types.specs.declared.attrs.Attrs.{Attrs}

-- the attributes of a number, if it is in use
abbrev pub shown_attrs : Content → ℕ → Option Attrs
shown_attrs c ino = option_map attrs_of (map.get c ino)

-- the bytes of a number, none if it is not in use
abbrev pub bytes_of_file : Option File → List ℕ
bytes_of_file None = []
bytes_of_file (Some f) = f.bytes

abbrev pub bytes_of : Content → ℕ → List ℕ
bytes_of c ino = bytes_of_file (map.get c ino)

-- the bytes that a read of at most len bytes from off on gives
abbrev pub slice_of : List ℕ → ℕ → ℕ → List ℕ
slice_of bytes off len = take len (drop off bytes)

-- the first count bytes of a buffer are those read, and the others stay
pub record Reads (read : List ℕ) (count : ℕ) (old new : List ℕ) : Type 0 where
  pub counted : count ≡ length read
  pub filled : new ≡ read ++ drop (length read) old

-- no number from 4 up to this one is free
abbrev pub IsUsedBelow : Content → ℕ → Type 0
IsUsedBelow c high = (ino : ℕ) → 4 ≤ ino → ino < high → IsSome (map.get c ino)

-- the least free number from 4 up and below the number of inode numbers, if there is one
abbrev pub IsLeastFree : ℕ → Content → Option ℕ → Type 0
IsLeastFree numbers c None = IsUsedBelow c numbers
IsLeastFree numbers c (Some ino) = (4 ≤ ino) × (ino < numbers) × (map.get c ino ≡ None) × IsUsedBelow c ino
