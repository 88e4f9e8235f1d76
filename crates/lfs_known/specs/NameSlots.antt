-- What slots say of a name.
use Rattle.std.specs.Prelude.{ℕ, ◌==◌, ◌&&◌, nat_le, Bool, List, length, take, Option, None, Some, bytes_eq}
use Rattle.std.specs.Prelude.{if◌then◌else◌, slice_index_or}
use Rattle.lfs_known.specs.Places.{place_of}
use Rattle.lfs_known.specs.declared.pair.Pair.{Pair}

-- whether a pair is of this directory and this name
abbrev pub is_pair_of : Pair → ℕ → List ℕ → Bool
is_pair_of pair dir name = (pair.dir == dir) && bytes_eq (take pair.len pair.bytes) name

-- what a slot has for a name of a directory, if anything: the number that is listed under it, or that none is
abbrev pub slot_says : Option Pair → ℕ → List ℕ → Option (Option ℕ)
slot_says None dir name = None
slot_says (Some pair) dir name = if is_pair_of pair dir name then Some pair.found else None

-- what is kept of a name: of a long one nothing
abbrev pub kept_of : List ℕ → Option (Option ℕ) → Option (Option ℕ)
kept_of name said = if nat_le (length name) 24 then said else None

-- what slots have for a name of a directory, if anything
abbrev pub said : List (Option Pair) → ℕ → List ℕ → Option (Option ℕ)
said slots dir name =
    kept_of name (slot_says (slice_index_or slots (place_of dir name) None) dir name)
