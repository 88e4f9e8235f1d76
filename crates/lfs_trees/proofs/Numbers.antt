-- The numbers that a walk reached are marked, each once: `unmarked` and `marked_more` for `Walk::new` and `push`,
-- `no_more` for `next`, `among-same` and `among-other` for Entering and Turning. A number is pushed only if it isn't
-- marked, and marks say just which numbers are among those reached (AreMarked), by cases of the number asked for.
-- Distinct numbers below a bound are no more than that (`no_more`), by which the walk needs no counter of its own; a
-- number pushed twice would break it.
use Rattle.std.proofs.Common.{◌≡◌, ◌≢◌, ℕ, zero, suc, ◌+◌, ◌<◌, ◌≤◌, Bool, true, false, List, [], ◌∷◌, ◌++◌, length}
use Rattle.std.proofs.Common.{take, get_or, replicate, set, refl, sym, ap, subst, ◌∙◌, ⊎_elim, arith, length-set}
use Rattle.std.specs.Prelude.{◌||◌, nat_eq}
use Rattle.std.specs.List.{IsDistinct, AllByRecursion}
use Rattle.std.specs.Cmp.{nat_eq_equiv}
use Rattle.std.proofs.lemmas.Bool.{cases_eq, eq-eqb, ne_eqb}
use Rattle.std.proofs.lemmas.List.{take_more, take-append-le, get_or-replicate, get_or-set_same, get_or-set_other}
use Rattle.std.proofs.lemmas.List.{length-replicate}
use Rattle.std.proofs.lemmas.List.Folds.{list_any-append}
use Rattle.std.proofs.lemmas.Map.Keys.{IsDistinct-push}
use Rattle.std.proofs.lemmas.Map.Steps.{length-le_from_distinct_below}
use Rattle.lfs_trees.specs.Marks.{AreMarked, is_among}

-- ---- one more

or_false : (b : Bool) → (b || false) ≡ b
or_false true = refl
or_false false = refl

or_right : (a b : Bool) → b ≡ true → (a || b) ≡ true
or_right true b h = refl
or_right false b h = h

or_both : (a b : Bool) → a ≡ false → b ≡ false → (a || b) ≡ false
or_both true b h i = absurd (cc)
or_both false b h i = i

-- the number itself is among them then
pub among-same : (ns : List ℕ) (n : ℕ) → is_among (ns ++ n ∷ []) n ≡ true
among-same ns n = list_any-append (nat_eq n) ns (n ∷ []) ∙ or_right _ _ (ap (λ b. b || false) (eq-eqb n n refl))

-- and of the others those that were
pub among-other : (ns : List ℕ) (n m : ℕ) → m ≢ n → is_among (ns ++ n ∷ []) m ≡ is_among ns m
among-other ns n m apart = list_any-append (nat_eq m) ns (n ∷ [])
    ∙ ap (λ b. is_among ns m || (b || false)) (ne_eqb m n apart) ∙ or_false _

-- ---- the first of them

none_before : (n : ℕ) (ns : List ℕ) (i : ℕ) → AllByRecursion (λ m. nat_eq n m ≡ false) ns → i < length ns
    → nat_eq (get_or ns i 0) n ≡ false
none_before n [] i all within = absurd (omega arith)
none_before n (m ∷ ns) zero all within =
    ne_eqb m n (λ same. let here = all.0 in let is = eq-eqb n m (sym same) in absurd (cc))
none_before n (m ∷ ns) (suc i) all within = none_before n ns i all.1 (omega arith)

-- a number isn't among those before it
pub among-before : (ns : List ℕ) (i : ℕ) → IsDistinct nat_eq ns → i < length ns → is_among (take i ns) (get_or ns i 0)
    ≡ false
unfolding IsDistinct
among-before [] i distinct within = absurd (omega arith)
among-before (n ∷ ns) zero distinct within = refl
among-before (n ∷ ns) (suc i) distinct within =
    or_both _ _ (none_before n ns i distinct.0 (omega arith)) (among-before ns i distinct.1 (omega arith))

-- each place has a number that is among them
pub among-place : (ns : List ℕ) (i : ℕ) → i < length ns → is_among ns (get_or ns i 0) ≡ true
among-place [] i within = absurd (omega arith)
among-place (n ∷ ns) zero within = ap (λ b. b || is_among ns n) (eq-eqb n n refl)
among-place (n ∷ ns) (suc i) within = or_right _ _ (among-place ns i (omega arith))

-- ---- marks

-- before any number is reached none is marked
pub unmarked : (numbers : ℕ) (order : List ℕ) (marks : List Bool) → order ≡ [] → marks ≡ replicate numbers false
    → AreMarked order marks
unfolding IsDistinct
unmarked numbers order marks none all = subst (λ ns. AreMarked ns marks) (sym none)
    (subst (AreMarked []) (sym all) (record {
      marked = λ n within. get_or-replicate numbers n false false (omega (arith, length-replicate numbers false));
      below = λ n among. absurd (cc);
      distinct = tt;
    }))

-- one more number is reached and marked
pub marked_more : (order : List ℕ) (marks : List Bool) (n : ℕ) → AreMarked order marks → n < length marks
    → is_among order n ≡ false
    → AreMarked (order ++ n ∷ []) (set marks n true)
marked_more order marks n h within apart = record {
  marked = λ m inside. ⊎_elim
      (λ same. subst (λ k. get_or (set marks n true) k false ≡ is_among (order ++ n ∷ []) k) (sym same)
      (get_or-set_same marks n true false within ∙ sym (among-same order n)))
      (λ other. get_or-set_other marks n m true false other ∙ h.marked m (omega (arith, length-set marks n true))
      ∙ sym (among-other order n m other))
      (cases_eq m n);
  below = λ m among. ⊎_elim
      (λ same. omega (arith, length-set marks n true, same))
      (λ other. let was = h.below m (sym (among-other order n m other) ∙ among) in
      omega (arith, length-set marks n true))
      (cases_eq m n);
  distinct = IsDistinct-push nat_eq_equiv order n h.distinct apart;
}

-- no more numbers are reached than there are
pub no_more : (order : List ℕ) (marks : List Bool) → AreMarked order marks → length order ≤ length marks
no_more order marks h = length-le_from_distinct_below order (length marks) h.distinct h.below

-- ---- those that were read

-- one more number is read
pub read_more : (ns : List ℕ) (i n : ℕ) → i < length ns → get_or ns i 0 ≡ n → take (i + 1) ns ≡ take i ns ++ n ∷ []
read_more ns i n within is = take_more ns i 0 within ∙ ap (λ m. take i ns ++ m ∷ []) is

-- those that were read stay the same as one more is reached
pub read_same : (ns : List ℕ) (i n : ℕ) → i ≤ length ns → take i (ns ++ n ∷ []) ≡ take i ns
read_same ns i n within = take-append-le i ns (n ∷ []) within
