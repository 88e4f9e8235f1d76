-- Loops over a trail and over tests, one item at a time, come to the whole: `told_more` and `told_all` for
-- `push_trail`, `asks_next` to `asks_all` for `asked_count`, `failing_next` and `failing_here` for `verdict`,
-- `any_past` and `place_past` for `place_on`. Each takes the first item off what is left of the list (`left_from`):
-- what was found so far, with what is left, is the whole, and it's told before and after each step. None of them needs
-- anything of calls or rows; a trail's step with another number of tests changes `step_told` alone.
use Rattle.std.proofs.Common.{◌≡◌, ℕ, zero, suc, ◌+◌, ◌-◌, ◌<◌, ◌≤◌, ◌==◌, ◌||◌, Bool, true, false, cond, List, [], ◌∷◌}
use Rattle.std.proofs.Common.{◌++◌, length, min, take, drop, get_or, Option, None, Some, refl, sym, ap, ◌∙◌, add-one}
use Rattle.std.proofs.Common.{append_assoc, append-nil, arith, eq-eqb}
use Rattle.std.proofs.Math.Seq.{drop-cons}
use Rattle.std.proofs.lemmas.Bool.{ne_eqb}
use Rattle.std.proofs.lemmas.List.{drop_all, length-drop}
use Rattle.std.specs.Prelude.{is_some, slice_get}
use Rattle.std.specs.List.{list_any}
use Rattle.lfs_types.specs.Caller.{Caller}
use Rattle.lfs_types.specs.declared.rule.Denial.{Denial}
use Rattle.lfs_model.specs.Rules.{Check, first_failing, position}
use Rattle.lfs_explain.specs.Asked.{asked}
use Rattle.lfs_explain.specs.Tables.{goes_on, step_tests, trail_tests}
use Rattle.lfs_explain.specs.declared.trail.ShownRow.{ShownRow}
use Rattle.lfs_explain.proofs.TrailLemmas.{numbers}

-- what is left of a list, with the first of it
pub left_from : {A : Type 0} (xs : List A) (at : ℕ) (x : A) → at < length xs → x ≡ get_or xs at x → drop at xs ≡ x
    ∷ drop (at + 1) xs
left_from xs at x h is = drop-cons xs at x h ∙ rw (← is, add-one) refl

goes_drop : (rows : List ShownRow) (j : ℕ) → goes_on (drop j rows) ≡ is_some (slice_get rows j)
goes_drop [] zero = refl
goes_drop [] (suc j) = refl
goes_drop (row ∷ rows) zero = refl
goes_drop (row ∷ rows) (suc j) = goes_drop rows j

module _ (caller : Caller) (path : ℕ) where
  none_told : (k n : ℕ) (rows : List ShownRow) → min (length rows) n ≡ 0 → trail_tests caller path k n rows ≡ []
  none_told k zero rows h = refl
  none_told k (suc n) [] h = refl
  none_told k (suc n) (row ∷ rows) h = absurd (omega (arith, h))

  -- a step, and the others
  step_told : (rows : List ShownRow) (at count : ℕ) (row : ShownRow) → at < length rows → at < count → row
      ≡ get_or rows at row
      → trail_tests caller path at (count - at) (drop at rows)
      ≡ step_tests caller path at row.attrs (is_some (slice_get rows (at + 1)))
      ++ trail_tests caller path (at + 1) (count - (at + 1)) (drop (at + 1) rows)
  step_told rows at count row long more is =
      let e : count - at ≡ suc (count - (at + 1)) = omega (arith, more) in
      ap (λ k. trail_tests caller path at k (drop at rows)) e
      ∙ ap (λ (rs : List ShownRow). trail_tests caller path at (suc (count - (at + 1))) rs)
      (left_from rows at row long is)
      ∙ ap (λ b. step_tests caller path at row.attrs b
      ++ trail_tests caller path (at + 1) (count - (at + 1)) (drop (at + 1) rows)) (goes_drop rows (at + 1))

  -- the checks so far and those of the other steps are those of all, after a step
  pub told_more : (old all now more after : List Check) (rows : List ShownRow) (at count : ℕ) (row : ShownRow)
      → at < min (length rows) count → row ≡ get_or rows at row
      → now ++ trail_tests caller path at (count - at) (drop at rows) ≡ old ++ all
      → after ≡ now ++ more → more ≡ step_tests caller path at row.attrs (is_some (slice_get rows (at + 1)))
      → after ++ trail_tests caller path (at + 1) (count - (at + 1)) (drop (at + 1) rows) ≡ old ++ all
  told_more old all now more after rows at count row long is so pushed step =
      let long_rows : at < length rows = omega (arith, long) in
      let long_count : at < count = omega (arith, long) in
      let rest = trail_tests caller path (at + 1) (count - (at + 1)) (drop (at + 1) rows) in
      ap (λ cs. cs ++ rest) (pushed ∙ ap (λ cs. now ++ cs) step)
      ∙ append_assoc now (step_tests caller path at row.attrs (is_some (slice_get rows (at + 1)))) rest
      ∙ ap (λ cs. now ++ cs) (sym (step_told rows at count row long_rows long_count is))
      ∙ so

  -- behind the last step
  pub told_all : (old all now : List Check) (rows : List ShownRow) (at count : ℕ) → min (length rows) count ≤ at
      → now ++ trail_tests caller path at (count - at) (drop at rows) ≡ old ++ all → now ≡ old ++ all
  told_all old all now rows at count over so =
      let size = length-drop at rows in
      sym (append-nil now) ∙ ap (λ cs. now ++ cs)
      (sym (none_told at (count - at) (drop at rows) (omega (arith, over, size)))) ∙ so

-- ---- asked one by one

asked_here : (met : Bool) (denial : Denial) (checks : List Check) (n : ℕ) → met ≡ true → take n checks ≡ asked checks
    → take (suc n) (record { met = met; denial = denial } ∷ checks)
    ≡ asked (record { met = met; denial = denial } ∷ checks)
asked_here true denial checks n met so = ap (λ l. record { met = true; denial = denial } ∷ l) so
asked_here false denial checks n met so = absurd (cc)

asked_last : (met : Bool) (denial : Denial) (checks : List Check) → met ≡ false
    → take 1 (record { met = met; denial = denial } ∷ checks) ≡ asked (record { met = met; denial = denial } ∷ checks)
asked_last true denial checks met = absurd (cc)
asked_last false denial checks met = refl

-- where this many more are asked of the rest, so many are of all
abbrev pub AsksOn : List Check → ℕ → Type 0
AsksOn checks at = (n : ℕ) → take n (drop at checks) ≡ asked (drop at checks) → take (at + n) checks ≡ asked checks

pub asks_next : (checks : List Check) (at : ℕ) (check : Check) → at < length checks → check ≡ get_or checks at check
    → check.met ≡ true → AsksOn checks at → AsksOn checks (at + 1)
asks_next checks at check long is met on n so =
    let left = left_from checks at check long is in
    let same : (at + 1) + n ≡ at + suc n = omega arith in
    ap (λ k. take k checks) same
    ∙ on (suc n) (ap (λ (l : List Check). take (suc n) l) left
    ∙ asked_here check.met check.denial (drop (at + 1) checks) n met so ∙ ap asked (sym left))

pub asks_last : (checks : List Check) (at : ℕ) (check : Check) → at < length checks → check ≡ get_or checks at check
    → check.met ≡ false → AsksOn checks at → take (at + 1) checks ≡ asked checks
asks_last checks at check long is met on =
    let left = left_from checks at check long is in
    on 1 (ap (λ (l : List Check). take 1 l) left ∙ asked_last check.met check.denial (drop (at + 1) checks) met
    ∙ ap asked (sym left))

pub asks_all : (checks : List Check) (at : ℕ) → at ≡ length checks → AsksOn checks at → take at checks ≡ asked checks
asks_all checks at whole on =
    let none : drop at checks ≡ [] = drop_all at checks (omega (arith, whole)) in
    let same : at ≡ at + 0 = omega arith in
    ap (λ k. take k checks) same ∙ on 0 (ap asked (sym none))

-- ---- numbers one by one

pub any_next : (rows : List ShownRow) (at number : ℕ) (row : ShownRow) → at < length rows → row ≡ get_or rows at row
    → list_any (λ n. n == number) (numbers (drop at rows))
    ≡ ((row.number == number) || list_any (λ n. n == number) (numbers (drop (at + 1) rows)))
any_next rows at number row long is = ap (λ (l : List ShownRow). list_any (λ n. n == number) (numbers l))
    (left_from rows at row long is)

pub place_next : (rows : List ShownRow) (at number : ℕ) (row : ShownRow) → at < length rows → row ≡ get_or rows at row
    → position number (numbers (drop at rows))
    ≡ cond (row.number == number) 0 (1 + position number (numbers (drop (at + 1) rows)))
place_next rows at number row long is = ap (λ (l : List ShownRow). position number (numbers l))
    (left_from rows at row long is)

-- ---- the first that fails, one by one

fails_met : (met : Bool) (denial : Denial) (rest : Option Denial) → met ≡ true → cond met rest (Some denial) ≡ rest
fails_met true denial rest h = refl
fails_met false denial rest h = absurd (cc)

fails_unmet : (met : Bool) (denial : Denial) (rest : Option Denial) → met ≡ false → cond met rest (Some denial)
    ≡ Some denial
fails_unmet true denial rest h = absurd (cc)
fails_unmet false denial rest h = refl

pub failing_next : (checks : List Check) (at : ℕ) (check : Check) → at < length checks → check ≡ get_or checks at check
    → check.met ≡ true
    → first_failing (drop at checks) ≡ first_failing (drop (at + 1) checks)
failing_next checks at check long is met = ap first_failing (left_from checks at check long is)
    ∙ fails_met check.met check.denial (first_failing (drop (at + 1) checks)) met

pub failing_here : (checks : List Check) (at : ℕ) (check : Check) → at < length checks → check ≡ get_or checks at check
    → check.met ≡ false
    → first_failing (drop at checks) ≡ Some check.denial
failing_here checks at check long is met = ap first_failing (left_from checks at check long is)
    ∙ fails_unmet check.met check.denial (first_failing (drop (at + 1) checks)) met

pub failing_none : (checks : List Check) (at : ℕ) → length checks ≤ at → first_failing (drop at checks) ≡ None
failing_none checks at over = ap first_failing (drop_all at checks over)

-- ---- a number among rows

abbrev has : ℕ → List ShownRow → Bool
has number rows = list_any (λ n. n == number) (numbers rows)

abbrev place : ℕ → List ShownRow → ℕ
place number rows = position number (numbers rows)

module _ (rows : List ShownRow) (at number : ℕ) where
  module _ (row : ShownRow) (long : at < length rows) (is : row ≡ get_or rows at row) where
    pub any_past : (all : Bool) → (row.number ≡ number → ⊥) → all ≡ has number (drop at rows) → all
        ≡ has number (drop (at + 1) rows)
    any_past all other so = so ∙ any_next rows at number row long is
        ∙ ap (λ b. b || has number (drop (at + 1) rows)) (ne_eqb row.number number other)

    pub place_past : (all : ℕ) → (row.number ≡ number → ⊥) → all ≡ at + place number (drop at rows) → all ≡ (at + 1)
        + place number (drop (at + 1) rows)
    place_past all other so =
        let next : place number (drop at rows) ≡ 1 + place number (drop (at + 1) rows) =
        place_next rows at number row long is ∙ ap (λ b. cond b 0 (1 + place number (drop (at + 1) rows)))
        (ne_eqb row.number number other) in
        omega (arith, so, next)

    pub any_here : (all : Bool) → row.number ≡ number → all ≡ has number (drop at rows) → true ≡ all
    any_here all same so = sym (so ∙ any_next rows at number row long is
        ∙ ap (λ b. b || has number (drop (at + 1) rows)) (eq-eqb row.number number same))

    pub place_here : (all : ℕ) → row.number ≡ number → all ≡ at + place number (drop at rows) → at ≡ all
    place_here all same so =
        let here : place number (drop at rows) ≡ 0 =
        place_next rows at number row long is ∙ ap (λ b. cond b 0 (1 + place number (drop (at + 1) rows)))
        (eq-eqb row.number number same) in
        omega (arith, so, here)

  module _ (over : length rows ≤ at) where
    pub any_end : (all : Bool) → all ≡ has number (drop at rows) → false ≡ all
    any_end all so = sym (so ∙ ap (has number) (drop_all at rows over))

    pub place_end : (all : ℕ) → at ≤ length rows → all ≡ at + place number (drop at rows) → length rows ≡ all
    place_end all within so =
        let none : place number (drop at rows) ≡ 0 = ap (place number) (drop_all at rows over) in
        omega (arith, so, none, over, within)
