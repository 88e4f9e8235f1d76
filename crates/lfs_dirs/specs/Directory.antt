-- Directory blocks: the grammar, as a relation between bytes and the entries that they spell.
use Rattle.std.specs.Prelude.{◌≡◌, ℕ, ◌+◌, ◌^◌, ◌<◌, Bool, not, List, [], ◌∷◌, ◌++◌, length, map, replicate, filter}
use Rattle.std.specs.Prelude.{find, Option, None, option_map, bytes_eq, if◌then◌else◌, ⊤}
use Rattle.std.specs.Int.{w32, to_be_bytes}
use Rattle.lfs_types.specs.Naming.{name_fault}

-- an entry: a file's number and the bytes of its name
abbrev pub Entry : Type 0
Entry = ℕ × List ℕ

-- the bytes of an entry: the number in four bytes, the highest first, the name's length in one, the name
abbrev pub entry_bytes : Entry → List ℕ
entry_bytes e = to_be_bytes w32 e.0 ++ length e.1 ∷ e.1

-- how many bytes the entries take
abbrev pub used_of : List Entry → ℕ
used_of [] = 0
used_of (e ∷ es) = 5 + length e.1 + used_of es

-- whether an entry has this name
abbrev pub has_name : List ℕ → Entry → Bool
has_name name e = bytes_eq e.1 name

-- the number of the first entry of this name
unfoldable pub number_in : List ℕ → List Entry → Option ℕ
number_in name es = option_map (λ (e : Entry). e.0) (find (has_name name) es)

-- the entries without those of this name, in order
unfoldable pub without : List ℕ → List Entry → List Entry
without name es = filter (λ e. not (has_name name e)) es

-- an entry with another number, where it has this name
abbrev pub with_number : List ℕ → ℕ → Entry → Entry
with_number name number e = if has_name name e then (number, e.1) else e

-- the entries, with another number for this name
unfoldable pub renumbered : List ℕ → ℕ → List Entry → List Entry
renumbered name number es = map (with_number name number) es

-- an entry has a number from 1 to the largest of four bytes, and a name
pub record IsEntry (e : Entry) : Type 0 where
  pub above : 0 < e.0
  pub fits : e.0 < 2 ^ 32
  pub named : name_fault e.1 ≡ None

-- entries of which no two have one name
abbrev pub AreEntries : List Entry → Type 0
AreEntries [] = ⊤
AreEntries (e ∷ es) = IsEntry e × (number_in e.1 es ≡ None) × AreEntries es

-- the bytes are those of the entries, one behind the other, and zeros after them
abbrev pub Spells : List ℕ → List Entry → Type 0
Spells bytes [] = bytes ≡ replicate (length bytes) 0
Spells bytes (e ∷ es) = (rest : List ℕ) × (bytes ≡ entry_bytes e ++ rest) × Spells rest es

-- the bytes are a directory block of these entries
pub record IsDirectoryBlock (bytes : List ℕ) (es : List Entry) : Type 0 where
  pub size : length bytes ≡ 512
  pub entries : AreEntries es
  pub spelled : Spells bytes es
