-- A list is kept element by element.
use Rattle.std.proofs.Common.{◌≡◌, ℕ, ◌+◌, ◌<◌, Bool, true, List, [], ◌∷◌, length, map, take, get_or, refl, ap, inl}
use Rattle.std.proofs.Common.{inr, ◌∙◌, ◌||◌}
use Rattle.std.specs.List.{list_all, list_any}
use Rattle.std.proofs.lemmas.List.Folds.{list_all_more, list_all_at}
use Rattle.std.proofs.lemmas.Bool.{cases_Bool, both_ways}

-- what all elements pass, the one at an index passes
pub passes_at : {X : Type 0} (p : X → Bool) (xs : List X) (k : ℕ) (d : X) → list_all p xs ≡ true → k < length xs
    → p (get_or xs k d) ≡ true
passes_at p xs k d all lt =
    elim (cases_Bool (p (get_or xs k d))) [
      | inl passes ↦ passes
      | inr fails ↦ absurd (both_ways (list_all p xs) (list_all_at p xs k d lt fails) all)
    ]

-- one more element passes
pub passing_more : {Y : Type 0} (p : Y → Bool) (all : List Y) (i : ℕ) (d : Y) → i < length all → list_all p (take i all)
    ≡ true → p (get_or all i d) ≡ true → list_all p (take (i + 1) all) ≡ true
passing_more p all i d within so_far here = list_all_more p all i d within ∙ rw (so_far, here) refl

-- some word that a test passes is some value of the words' list that it passes
pub list_any-map : {X Y : Type 0} (p : Y → Bool) (f : X → Y) (xs : List X) → list_any (λ x. p (f x)) xs
    ≡ list_any p (map f xs)
list_any-map p f [] = refl
list_any-map p f (x ∷ xs) = ap (λ rest. p (f x) || rest) (list_any-map p f xs)
