-- Lists of tests of which the same are asked: `append_same`, `test_same` and `step_same` for TableLemmas and
-- TrailLemmas, `failing_asked` for `explain` and lfs_who. A test is asked only if all before it were met, so two lists
-- need to be the same only that far: behind a test that isn't met they may differ (`behind_same`). The first test that
-- fails is asked, so it is the first of those that are asked.
use Rattle.std.proofs.Common.{◌≡◌, Bool, true, false, cond, List, [], ◌∷◌, ◌++◌, Some, refl, ap, ◌∙◌}
use Rattle.lfs_types.specs.declared.rule.Denial.{Denial}
use Rattle.lfs_model.specs.Rules.{Check, first_failing}
use Rattle.lfs_explain.specs.Asked.{asked}

abbrev pub test : Bool → Denial → Check
test met denial = record { met = met; denial = denial }

-- what stands behind a test that isn't met is not asked
pub behind_same : (met : Bool) (xs ys : List Check) → (met ≡ true → xs ≡ ys) → cond met xs [] ≡ cond met ys []
behind_same true xs ys same = same refl
behind_same false xs ys same = refl

-- tests with others behind them
pub append_same : (tests xs ys : List Check) → asked xs ≡ asked ys → asked (tests ++ xs) ≡ asked (tests ++ ys)
append_same [] xs ys same = same
append_same (x ∷ tests) xs ys same = ap (λ l. x ∷ cond x.met l []) (append_same tests xs ys same)

-- one test, and others behind it
pub test_same : (met : Bool) (denial : Denial) (xs ys : List Check) → (met ≡ true → asked xs ≡ asked ys)
    → asked (test met denial ∷ xs) ≡ asked (test met denial ∷ ys)
test_same met denial xs ys same = ap (λ l. test met denial ∷ l) (behind_same met (asked xs) (asked ys) same)

-- three tests, and others behind them
pub step_same : (d e s t n m : Bool) (x y z : Denial) (xs ys : List Check) → d ≡ e → s ≡ t → n ≡ m
    → (m ≡ true → asked xs ≡ asked ys)
    → asked (test d x ∷ test s y ∷ test n z ∷ xs) ≡ asked (test e x ∷ test t y ∷ test m z ∷ ys)
step_same d e s t n m x y z xs ys de st nm same =
    ap (λ b. asked (test b x ∷ test s y ∷ test n z ∷ xs)) de
    ∙ ap (λ b. asked (test e x ∷ test b y ∷ test n z ∷ xs)) st
    ∙ ap (λ b. asked (test e x ∷ test t y ∷ test b z ∷ xs)) nm
    ∙ append_same (test e x ∷ test t y ∷ []) (test m z ∷ xs) (test m z ∷ ys) (test_same m z xs ys same)

-- the first that fails of those that were asked is the first of all
pub failing_met : (met : Bool) (denial : Denial) (xs ys : List Check) → first_failing xs ≡ first_failing ys
    → cond met (first_failing (cond met xs [])) (Some denial) ≡ cond met (first_failing ys) (Some denial)
failing_met true denial xs ys same = same
failing_met false denial xs ys same = refl

pub failing_asked : (tests : List Check) → first_failing (asked tests) ≡ first_failing tests
failing_asked [] = refl
failing_asked (x ∷ tests) = failing_met x.met x.denial (asked tests) tests (failing_asked tests)
