-- What directories list, what a cache says of it, and how changes leave it.
use Rattle.std.specs.Prelude.{◌≡◌, ℕ, List, Option, None, Some}
use Rattle.lfs_types.specs.Stored.{bytes_of}
use Rattle.lfs_types.specs.Tree.{Content}
use Rattle.lfs_types.specs.declared.attrs.Attrs.{Attrs}
use Rattle.lfs_known.specs.declared.slots.Slots.{Slots}
use Rattle.lfs_known.specs.Shown.{AreShown}
use Rattle.lfs_known.specs.Full.{AreFull}
use Rattle.lfs_known.specs.declared.hints.Hint.{Hint}
use Rattle.lfs_dirs.specs.Directory.{number_in}
use Rattle.lfs_known.specs.NamesSaid.{says}
use Rattle.lfs_known.specs.declared.names.NameCache.{NameCache}
use Rattle.lfs_known.specs.declared.name_table.NameTable.{NameTable}
use Rattle.lfs_known.specs.Spots.{ArePlacedIn, StandsBesides}
use Rattle.lfs_calls.specs.Content.{IsDirectoryAt, all_entries}

-- a directory lists a number under a name
pub record Lists (c : Content) (dir : ℕ) (name : List ℕ) (number : ℕ) : Type 0 where
  pub directory : IsDirectoryAt c dir
  pub listed : number_in name (all_entries (bytes_of c dir)) ≡ Some number

-- what is found under a name of a number: a directory lists a number; or it lists none, if it is a directory
abbrev pub IsFound : Content → ℕ → List ℕ → Option ℕ → Type 0
IsFound c dir name None = IsDirectoryAt c dir → number_in name (all_entries (bytes_of c dir)) ≡ None
IsFound c dir name (Some number) = Lists c dir name number

-- what a cache says of names is what is found
abbrev pub AreTrue : NameCache → Content → Type 0
AreTrue names c = (dir : ℕ) (name : List ℕ) (found : Option ℕ) → says names dir name ≡ Some found
    → IsFound c dir name found

-- what is known: what caches say of names and of attributes is what a content has, what hints say of room is so, and
-- in a directory that a table knows names stand only where it says that they may
pub record IsTrueOf (names : NameCache) (attributes : Slots Attrs) (hints : Slots Hint)
    (table : Option NameTable) (c : Content) : Type 0 where
  pub listed : AreTrue names c
  pub shown : AreShown attributes c
  pub full : AreFull hints c
  pub placed : ArePlacedIn table c

-- what was found is found still
abbrev pub KeepsNames : Content → Content → Type 0
KeepsNames old new = (dir : ℕ) (name : List ℕ) (found : Option ℕ) → IsFound old dir name found
    → IsFound new dir name found

-- but for one name
abbrev pub KeepsBut : ℕ → List ℕ → Content → Content → Type 0
KeepsBut dir name old new =
    (d : ℕ) (n : List ℕ) (found : Option ℕ) → (d ≡ dir → n ≡ name → ⊥) → IsFound old d n found
    → IsFound new d n found

-- under which this is found, and which alone may stand in a block where it didn't
pub record FindsNew (old new : Content) (dir : ℕ) (name : List ℕ) (found : Option ℕ)
    (k : ℕ) : Type 0 where
  pub keeps : KeepsBut dir name old new
  pub finds : IsFound new dir name found
  pub stands : StandsBesides old new dir name k

-- but for two
abbrev pub KeepsButBoth : ℕ → List ℕ → ℕ → List ℕ → Content → Content → Type 0
KeepsButBoth from old to new before after =
    (d : ℕ) (n : List ℕ) (found : Option ℕ) → (d ≡ from → n ≡ old → ⊥) → (d ≡ to → n ≡ new → ⊥)
    → IsFound before d n found → IsFound after d n found

-- of which the first is none, and the second this number's, and may stand in a block where it didn't, as no other may
pub record MovesName (before after : Content) (from : ℕ) (old : List ℕ) (to : ℕ) (new : List ℕ)
    (number k : ℕ) : Type 0 where
  pub keeps : KeepsButBoth from old to new before after
  pub loses : IsFound after from old None
  pub gives : IsFound after to new (Some number)
  pub stands : StandsBesides before after to new k
