-- Blocks some of which were written over others, in whatever order.
use Rattle.std.specs.Prelude.{◌≡◌, ◌⊎◌, ℕ, List, [], length, slice_index_or, slice_set}

-- each of them is the old one or the new one
pub record IsMixtureOf (old new blocks : List (List ℕ)) : Type 0 where
  pub long : length blocks ≡ length old
  pub each : (a : ℕ) → (slice_index_or blocks a [] ≡ slice_index_or old a [])
      ⊎ (slice_index_or blocks a [] ≡ slice_index_or new a [])

-- Blocks are some list that a crash might have left, as it was or with a block at an address.
abbrev pub IsWithOrWithout : ℕ → List ℕ → (List (List ℕ) → Type 0) → List (List ℕ) → Type 0
IsWithOrWithout address block may_leave c =
    may_leave c ⊎ ((d : List (List ℕ)) × may_leave d × (c ≡ slice_set d address block))
