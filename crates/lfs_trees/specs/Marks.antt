-- Numbers in an order, each once, and marks of them.
use Rattle.std.specs.Prelude.{◌≡◌, ℕ, ◌<◌, Bool, true, false, nat_eq, List, length, slice_index_or}
use Rattle.std.specs.List.{list_any, IsDistinct}

-- whether a list has a number
abbrev pub is_among : List ℕ → ℕ → Bool
is_among ns n = list_any (nat_eq n) ns

-- numbers, each once, are those that are marked
pub record AreMarked (order : List ℕ) (marks : List Bool) : Type 0 where
  pub marked : (n : ℕ) → n < length marks → slice_index_or marks n false ≡ is_among order n
  pub below : (n : ℕ) → is_among order n ≡ true → n < length marks
  pub distinct : IsDistinct nat_eq order
