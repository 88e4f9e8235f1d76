-- What a cache of names says.
use Rattle.std.specs.Prelude.{◌≡◌, ℕ, List, Option, Some}
use Rattle.lfs_known.specs.NameSlots.{said}
use Rattle.lfs_known.specs.declared.names.NameCache.{NameCache}

-- what a cache has for a name of a directory, if anything: the number that is listed under it, or that none is
unfoldable pub says : NameCache → ℕ → List ℕ → Option (Option ℕ)
says cache dir name = said cache.slots.items dir name

-- of each pair but one a cache says what another says, or nothing
abbrev pub SaysNoMore : NameCache → NameCache → ℕ → List ℕ → Type 0
SaysNoMore old new dir name =
    (d : ℕ) (n : List ℕ) (found : Option ℕ) → (d ≡ dir → n ≡ name → ⊥) → says new d n ≡ Some found
    → says old d n
    ≡ Some found
