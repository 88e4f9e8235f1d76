-- What a map of numbers has after a change: `get-insert_same`, `get-insert_other`, `get-remove_same` and
-- `get-remove_other`, on which all that is proved of rows and contents stands; `find-passes` and `find-none` are for
-- Children of `lfs_model`. The map looks keys up by the order's test, and that tells two numbers apart just if they
-- differ (`number_eq-true`, `number_eq-other`). An invariant of each value is kept if it holds of the new one and held
-- of the others (`each_value`); a map with another key needs its own copy of the first three lemmas.
use Rattle.std.proofs.Common.{◌≡◌, ◌≢◌, ℕ, Bool, true, false, List, [], ◌∷◌, None, Some, refl, sym, ap, ◌∙◌, subst}
use Rattle.std.proofs.Common.{⊎_elim}
use Rattle.std.specs.Prelude.{◌||◌, find, is_some}
use Rattle.std.specs.List.{list_any}
use Rattle.std.specs.Ordering.{nat_cmp, eq_by_cmp}
use Rattle.std.specs.Cmp.{nat_cmp_total, Equal-is, eq_by_cmp_equiv}
use Rattle.std.proofs.lemmas.Bool.{cond-true, cond-false, cases_Bool, cases_eq, false_from_ne_true}
use Rattle.std.specs.FinMap.{FinMap, empty, get, get-empty, insert, remove, keys, contains_key-keys, get-insert}
use Rattle.std.specs.FinMap.{get-remove, nat_cmp-IsAntisymmetric}

-- the order's test of two numbers says that they are equal
pub number_eq-true : (a b : ℕ) → eq_by_cmp nat_cmp a b ≡ true → a ≡ b
number_eq-true a b h = nat_cmp-IsAntisymmetric a b ((Equal-is (nat_cmp a b)).0 h)

pub number_eq-same : (a b : ℕ) → a ≡ b → eq_by_cmp nat_cmp a b ≡ true
number_eq-same a b h = subst (λ x. eq_by_cmp nat_cmp a x ≡ true) h ((eq_by_cmp_equiv nat_cmp_total).refl a)

pub number_eq-other : (a b : ℕ) → a ≢ b → eq_by_cmp nat_cmp a b ≡ false
number_eq-other a b h = false_from_ne_true _ (λ t. h (number_eq-true a b t))

module _ {X : Type 0} where
  -- the value that was put is there, and the others stay
  pub get-insert_same : (m : FinMap nat_cmp X) (k : ℕ) (v : X) → get (insert m k v) k ≡ Some v
  get-insert_same m k v = get-insert nat_cmp_total m k v k ∙ cond-true _ _ _ (number_eq-same k k refl)

  pub get-insert_other : (m : FinMap nat_cmp X) (k : ℕ) (v : X) (q : ℕ) → q ≢ k → get (insert m k v) q ≡ get m q
  get-insert_other m k v q h = get-insert nat_cmp_total m k v q ∙ cond-false _ _ _ (number_eq-other q k h)

  -- the value that was removed isn't there, and the others stay
  pub get-remove_same : (m : FinMap nat_cmp X) (k : ℕ) → get (remove m k) k ≡ None
  get-remove_same m k = get-remove nat_cmp_total m k k ∙ cond-true _ _ _ (number_eq-same k k refl)

  pub get-remove_other : (m : FinMap nat_cmp X) (k q : ℕ) → q ≢ k → get (remove m k) q ≡ get m q
  get-remove_other m k q h = get-remove nat_cmp_total m k q ∙ cond-false _ _ _ (number_eq-other q k h)

  -- a number that has a value is one of the keys
  pub is_key : (m : FinMap nat_cmp X) (q : ℕ) (v : X) → get m q ≡ Some v → list_any (eq_by_cmp nat_cmp q) (keys m)
      ≡ true
  is_key m q v e = sym (contains_key-keys m q) ∙ ap is_some e

  -- where a map has a new value at one number and otherwise what another has, what holds of that value and of the
  -- others holds of each
  pub each_value : (m after : FinMap nat_cmp X) (n : ℕ) (new : X) → get after n ≡ Some new
      → ((q : ℕ) → q ≢ n → get after q ≡ get m q)
      → (P : ℕ → X → Type 0) → P n new → ((q : ℕ) (x : X) → q ≢ n → get m q ≡ Some x → P q x) → (q : ℕ) (x : X)
      → get after q ≡ Some x → P q x
  each_value m after n new there others P here other q x e = ⊎_elim
      (λ same. let is : new ≡ x = cc (ap (get after) same) in subst (λ k. P k x) (sym same) (subst (P n) is here))
      (λ apart. other q x apart (sym (others q apart) ∙ e))
      (cases_eq q n)

  -- so where the value was put
  pub each_inserted : (m : FinMap nat_cmp X) (n : ℕ) (new : X) (P : ℕ → X → Type 0) → P n new
      → ((q : ℕ) (x : X) → q ≢ n → get m q ≡ Some x → P q x)
      → (q : ℕ) (x : X) → get (insert m n new) q ≡ Some x → P q x
  each_inserted m n new = each_value m (insert m n new) n new (get-insert_same m n new) (get-insert_other m n new)

  -- an empty map has no value
  pub none_at_first : (q : ℕ) (x : X) → get {R = nat_cmp} empty q ≡ Some x → ⊥
  none_at_first q x e = let wrong : None ≡ Some x = sym (get-empty nat_cmp q) ∙ e in absurd (cc)

-- the first element that passes a test passes it
pub find-passes : (p : ℕ → Bool) (xs : List ℕ) (x : ℕ) → find p xs ≡ Some x → p x ≡ true
find-passes p [] x e = absurd (cc)
find-passes p (y ∷ ys) x e = ⊎_elim
    (λ h. let here : y ≡ x = cc (cond-true (p y) (Some y) (find p ys) h) in subst (λ z. p z ≡ true) here h)
    (λ h. find-passes p ys x (sym (cond-false (p y) (Some y) (find p ys) h) ∙ e))
    (cases_Bool (p y))

-- where no element passes a test, one that another test finds fails it
pub find-none : (p : ℕ → Bool) (xs : List ℕ) (q : ℕ) → find p xs ≡ None → list_any (eq_by_cmp nat_cmp q) xs ≡ true → p q
    ≡ false
find-none p [] q e any = absurd (cc)
find-none p (y ∷ ys) q e any = ⊎_elim
    (λ h. let some = cond-true (p y) (Some y) (find p ys) h in absurd (cc))
    (λ h. ⊎_elim
    (λ t. subst (λ z. p z ≡ false) (sym (number_eq-true q y t)) h)
    (λ t. find-none p ys q (sym (cond-false (p y) (Some y) (find p ys) h) ∙ e)
    (sym (ap (λ b. b || list_any (eq_by_cmp nat_cmp q) ys) t) ∙ any))
    (cases_Bool (eq_by_cmp nat_cmp q y)))
    (cases_Bool (p y))
