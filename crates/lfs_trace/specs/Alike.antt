-- Whether two contents show one tree, number by number.
use Rattle.std.specs.Prelude.{◌≡◌, ◌↔◌, ℕ, ◌<◌, ◌≤◌, List, Option, None, Some, All, option_map}
use Rattle.std.specs.FinMap as map
use Rattle.lfs_types.specs.StoreStates.{StoreState}
use Rattle.lfs_types.specs.Stored.{bytes_of}
use Rattle.lfs_types.specs.Tree.{Content, World}
use Rattle.lfs_types.specs.declared.attrs.Attrs.{Attrs}
use Rattle.lfs_types.specs.declared.attrs.Kind.{Kind}
use Rattle.lfs_types.specs.declared.attrs.Kind.TheVariants.{File, Directory}
use Rattle.lfs_dirs.specs.Directory.{Entry, number_in}
use Rattle.lfs_calls.specs.Content.{IsDirectoryAt, all_entries, visible}
use Rattle.lfs_calls.specs.Volumes.{IsVolume}
use Rattle.lfs_trace.specs.Checking.{Standing, StandsAt}

-- what is found of two trees, where a checker stands and which a store shows: a number exactly where they aren't the
-- same, whatever the securelevels are
abbrev pub TellsDifference : Standing → StoreState → Option ℕ → Type 0
TellsDifference standing state found =
    (w v : World) → StandsAt standing w → IsVolume state v → (found ≡ None) ↔ (w.rows ≡ v.rows)

-- ---- for the functions within

-- a directory's bytes list entries, each under its name with its number
abbrev pub AreListed : List ℕ → List Entry → Type 0
AreListed bytes es = All (λ (e : Entry). number_in e.1 (all_entries bytes) ≡ Some e.0) es

-- Two contents are alike at a number: users see the same of its file, and what the directory lists in the second it
-- lists in the first. Where they're so at each number, the first's directories list no more, as each file has one name.
pub record IsAlikeAt (c d : Content) (n : ℕ) : Type 0 where
  pub files : option_map visible (map.get c n) ≡ option_map visible (map.get d n)
  pub names : IsDirectoryAt d n → AreListed (bytes_of c n) (all_entries (bytes_of d n))

-- a number at which two contents aren't alike, or none where they're so at each; among the numbers from one on to
-- before another
abbrev pub IsDifference : Content → Content → Option ℕ → Type 0
IsDifference c d None = (n : ℕ) → IsAlikeAt c d n
IsDifference c d (Some n) = ¬ (IsAlikeAt c d n)

abbrev pub IsDifferenceAmong : ℕ → ℕ → Content → Content → Option ℕ → Type 0
IsDifferenceAmong low high c d None = (n : ℕ) → low ≤ n → n < high → IsAlikeAt c d n
IsDifferenceAmong low high c d (Some n) = ¬ (IsAlikeAt c d n)

-- the size that users see
abbrev pub seen_size : Kind → ℕ → ℕ
seen_size File size = size
seen_size Directory size = 0

-- the attributes that users see: of a directory no size
abbrev pub seen_attrs : Attrs → Attrs
seen_attrs a = record a { size = seen_size a.kind a.size }
