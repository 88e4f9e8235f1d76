-- The number of a new row: no row has it (`new_unused`), and it is not the root's (`new_below`). The search goes up
-- from 4 and takes the first number without a row. So either what it found is unused, or each number that it looked at
-- is used (`Found`, by induction on how many are left to look at); where not all are used it is the former. It never
-- goes down, so it finds no less than 4, which is more than the root's number.
use Rattle.std.proofs.Common.{◌≡◌, ◌⊎◌, ℕ, zero, suc, ◌+◌, ◌<◌, ◌≤◌, cond, true, false, Option, None, Some, inl, inr}
use Rattle.std.proofs.Common.{refl, sym, ap, subst, ◌∙◌, ⊎_elim, arith}
use Rattle.std.proofs.lemmas.Bool.{cases_eq}
use Rattle.std.specs.Prelude.{is_some, IsSome}
use Rattle.std.specs.FinMap as map
use Rattle.lfs_types.specs.Tree.{Row, root}
use Rattle.lfs_model.specs.World.{Rows}
use Rattle.lfs_model.specs.Effects.{least_unused}
use Rattle.lfs_model.specs.Steps.{AllUsed}

-- either the number that was found is unused, or each number that was looked at is used
abbrev Found : Rows → ℕ → ℕ → Type 0
Found rows count n = (map.get rows (least_unused rows count n) ≡ None)
    ⊎ ((k : ℕ) → n ≤ k → k < n + count → IsSome (map.get rows k))

used_too : (rows : Rows) (count n : ℕ) (x : Row) → map.get rows n ≡ Some x → Found rows count (n + 1)
    → (map.get rows (least_unused rows count (n + 1)) ≡ None)
    ⊎ ((k : ℕ) → n ≤ k → k < n + suc count → IsSome (map.get rows k))
used_too rows count n x e found = ⊎_elim
    (λ unused. inl unused)
    (λ used. inr (λ k low high. ⊎_elim
    (λ same. subst (λ m. IsSome (map.get rows m)) (sym same) (subst IsSome (sym e) refl))
    (λ other. used k (omega (arith, low, other)) (omega (arith, high)))
    (cases_eq k n)))
    found

looked : (rows : Rows) (count n : ℕ) (o : Option Row) → map.get rows n ≡ o → Found rows count (n + 1)
    → Found rows (suc count) n
unfolding least_unused
looked rows count n None e found = inl (ap (λ p. map.get rows (cond (is_some p) (least_unused rows count (n + 1)) n)) e
    ∙ e)
looked rows count n (Some x) e found =
    subst (λ m. (map.get rows m ≡ None) ⊎ ((k : ℕ) → n ≤ k → k < n + suc count → IsSome (map.get rows k)))
    (sym (ap (λ p. cond (is_some p) (least_unused rows count (n + 1)) n) e))
    (used_too rows count n x e found)

found_from : (rows : Rows) (count n : ℕ) → Found rows count n
found_from rows zero n = inr (λ k low high. absurd (omega (arith, low, high)))
found_from rows (suc count) n = looked rows count n (map.get rows n) refl (found_from rows count (n + 1))

-- where not all numbers are used, the one that a new row gets isn't
pub new_unused : (numbers : ℕ) (rows : Rows) → (AllUsed numbers rows → ⊥) → map.get rows (least_unused rows numbers 4)
    ≡ None
new_unused numbers rows room = ⊎_elim
    (λ unused. unused)
    (λ used. absurd (room (λ n low high. used n low (omega (arith, high)))))
    (found_from rows numbers 4)

-- nor below where the search began
pub no_less : (rows : Rows) (count n k : ℕ) → k ≤ n → k ≤ least_unused rows count n
unfolding least_unused
no_less rows zero n k h = h
no_less rows (suc count) n k h = elim (is_some (map.get rows n)) as
    (λ b. k ≤ cond b (least_unused rows count (n + 1)) n) [
      | true ↦ no_less rows count (n + 1) k (omega (arith, h))
      | false ↦ h
    ]

-- and it isn't the root's
pub new_below : (numbers : ℕ) (rows : Rows) → least_unused rows numbers 4 ≡ root → ⊥
new_below numbers rows e = let four = no_less rows numbers 4 4 (omega arith) in omega (arith, four, e)
