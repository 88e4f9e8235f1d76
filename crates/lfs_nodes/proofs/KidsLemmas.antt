-- How many nodes hang in a directory, after one of them changed its place: `kids_moved`, `kids_none`, `kids_some` and
-- others, for WholeLemmas. The number is a sum over ids, in which each counts 1 where its place is in the directory and
-- else 0. So where one id changes its place, the sums of before and after differ by what it counted and what it counts;
-- and a sum is more than none just where some id's place is there.
use Rattle.std.proofs.Common.{◌≡◌, ◌≢◌, ℕ, zero, suc, ◌+◌, ◌<◌, ◌≤◌, Option, None, Some, true, false, refl, sym, ap}
use Rattle.std.proofs.Common.{◌∙◌, ⊎_elim, arith}
use Rattle.std.specs.Prelude.{◌==◌}
use Rattle.std.proofs.lemmas.Bool.{cond-true, cond-false, eq-eqb, ne_eqb, cases_eq}
use Rattle.lfs_nodes.specs.declared.place.Place.{Place}
use Rattle.lfs_nodes.specs.Whole.{beneath, kids}

-- a place in a directory counts there, and a place elsewhere doesn't
pub beneath_here : (p : ℕ) (place : Place) → place.parent ≡ p → beneath p (Some place) ≡ 1
beneath_here p place e = cond-true (place.parent == p) 1 0 (eq-eqb place.parent p e)

pub beneath_elsewhere : (p : ℕ) (place : Place) → place.parent ≢ p → beneath p (Some place) ≡ 0
beneath_elsewhere p place h = cond-false (place.parent == p) 1 0 (ne_eqb place.parent p h)

beneath_few : (p : ℕ) (o : Option Place) → beneath p o ≤ 1
beneath_few p None = omega arith
beneath_few p (Some place) = ⊎_elim
    (λ e. let one = beneath_here p place e in omega (arith, one))
    (λ ne. let none = beneath_elsewhere p place ne in omega (arith, none))
    (cases_eq place.parent p)

module _ (P Q : ℕ → Option Place) (p : ℕ) where
  pub kids_same : (n : ℕ) → ((q : ℕ) → q < n → Q q ≡ P q) → kids Q p n ≡ kids P p n
  unfolding kids
  kids_same zero same = refl
  kids_same (suc n) same =
      let before = kids_same n (λ q h. same q (omega arith)) in
      let here = ap (beneath p) (same n (omega arith)) in
      omega (arith, before, here)

  -- where one id changes its place, it leaves the old directory and comes to the new one
  pub kids_moved : (k n : ℕ) → k < n → ((q : ℕ) → q ≢ k → Q q ≡ P q) → kids Q p n + beneath p (P k) ≡ kids P p n
      + beneath p (Q k)
  unfolding kids
  kids_moved k zero h same = absurd (omega arith)
  kids_moved k (suc n) h same = ⊎_elim
      (λ (e : k ≡ n).
      let before = kids_same n (λ q below. same q (λ f. absurd (omega arith))) in
      let old = ap (λ x. beneath p (P x)) e in
      let new = ap (λ x. beneath p (Q x)) e in
      omega (arith, before, old, new))
      (λ (ne : k ≡ n → ⊥).
      let before = kids_moved k n (omega arith) same in
      let here = ap (beneath p) (same n (λ f. ne (sym f))) in
      omega (arith, before, here))
      (cases_eq k n)

module _ (P : ℕ → Option Place) (p : ℕ) where
  pub kids_few : (n : ℕ) → kids P p n ≤ n
  unfolding kids
  kids_few zero = omega arith
  kids_few (suc n) = let before = kids_few n in let here = beneath_few p (P n) in omega (arith, before, here)

  no_kid : (o : Option Place) → ((place : Place) → o ≡ Some place → place.parent ≢ p) → beneath p o ≡ 0
  no_kid None apart = refl
  no_kid (Some place) apart = beneath_elsewhere p place (apart place refl)

  pub kids_none : (n : ℕ) → ((q : ℕ) (place : Place) → P q ≡ Some place → place.parent ≢ p) → kids P p n ≡ 0
  unfolding kids
  kids_none zero apart = refl
  kids_none (suc n) apart =
      let before = kids_none n apart in
      let here = no_kid (P n) (apart n) in
      omega (arith, before, here)

  pub kids_some : (n q : ℕ) (place : Place) → q < n → P q ≡ Some place → place.parent ≡ p → 1 ≤ kids P p n
  unfolding kids
  kids_some zero q place h is in_it = absurd (omega arith)
  kids_some (suc n) q place h is in_it = ⊎_elim
      (λ (e : q ≡ n).
      let here : beneath p (P n) ≡ 1 = ap (λ x. beneath p (P x)) (sym e) ∙ ap (beneath p) is
      ∙ beneath_here p place in_it in
      omega (arith, here))
      (λ (ne : q ≡ n → ⊥). let before = kids_some n q place (omega arith) is in_it in omega (arith, before))
      (cases_eq q n)
