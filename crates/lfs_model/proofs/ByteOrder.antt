-- Names have one list in byte order: `sorted-is-in_byte_order`, by which ListLemmas shows that a sorted list of the
-- store is what List answers; `any-in_byte_order` and `sorted-in_byte_order` are for NameLists of `lfs_laws`. The
-- specification puts each name into a sorted list, which keeps it sorted and has just the names (induction on both);
-- two strictly sorted lists with the same members are one. Names must differ, or one would stand twice in one list and
-- once in the other; another order needs to be total and to tell names apart (`same_name-Decides`).
use Rattle.std.proofs.Common.{◌≡◌, ℕ, ◌+◌, Bool, true, false, List, [], ◌∷◌, get_or, refl, sym, ap, subst, ◌∙◌, ⊎_elim}
use Rattle.std.proofs.Common.{arith}
use Rattle.std.specs.Prelude.{◌||◌, Contains, Decides}
use Rattle.std.specs.Cmp.{Equal-is}
use Rattle.std.specs.Cmp.Lexicographic.{slice_cmp}
use Rattle.std.specs.List.{AllByRecursion, IsDistinct, list_any}
use Rattle.std.specs.List.Sorted.{IsSorted, IsStrictlySortedBy}
use Rattle.std.specs.Ordering.{nat_cmp, eq_by_cmp, is_lt, is_eq, ordering_reverse}
use Rattle.std.specs.declared.cmp.Ordering.{Ordering}
use Rattle.std.specs.declared.cmp.Ordering.TheVariants.{Less, Equal, Greater}
use Rattle.std.proofs.lemmas.Bool.{cond-true, cond-false, cases_Bool, or_parts}
use Rattle.std.proofs.lemmas.Bool.Decides.{same_from_decides, Decides-like}
use Rattle.std.proofs.lemmas.Cmp.{eq_by_cmp_equiv, nat_list_cmp_total}
use Rattle.std.proofs.lemmas.Map.Keys.{IsDistinct-head, IsDistinct-tail, apart_from_distinct, sorted_from_all_adjacent}
use Rattle.std.proofs.lemmas.Map.Lookups.{btree_set_from_contains, exact_bytes}
use Rattle.std.proofs.lemmas.Map.Made.{is_member-Decides}
use Rattle.lfs_model.specs.Effects.{put_in_order, in_byte_order}

-- whether two names tie in byte order
abbrev pub same_name : List ℕ → List ℕ → Bool
same_name = eq_by_cmp (slice_cmp nat_cmp)

-- the test decides whether two names are one
pub same_name-Decides : (a b : List ℕ) → Decides (same_name a b) (a ≡ b)
same_name-Decides a b = (
  λ h. exact_bytes a b ((Equal-is (slice_cmp nat_cmp a b)).0 h),
  λ h. subst (λ x. same_name a x ≡ true) h ((eq_by_cmp_equiv nat_list_cmp_total).refl a),
)

-- ---- the order of two names

-- an order that tests as less is it
pub less_is : (o : Ordering) → is_lt o ≡ true → o ≡ Less
less_is Less h = refl
less_is Equal h = absurd (cc)
less_is Greater h = absurd (cc)

turned : (o : Ordering) → is_lt o ≡ false → is_eq (ordering_reverse o) ≡ false → ordering_reverse o ≡ Less
turned Less h k = absurd (cc)
turned Equal h k = absurd (cc)
turned Greater h k = refl

-- of two names that differ, one is less
less_else : (a b : List ℕ) → is_lt (slice_cmp nat_cmp a b) ≡ false → same_name b a ≡ false → slice_cmp nat_cmp b a
    ≡ Less
less_else a b h apart =
    let back = nat_list_cmp_total.antisymm b a in
    back ∙ turned (slice_cmp nat_cmp a b) h (ap is_eq (sym back) ∙ apart)

each_later : (a b : List ℕ) (names : List (List ℕ)) → slice_cmp nat_cmp a b ≡ Less
    → AllByRecursion (λ y. slice_cmp nat_cmp b y ≡ Less) names
    → AllByRecursion (λ y. slice_cmp nat_cmp a y ≡ Less) names
each_later a b [] h each = tt
each_later a b (name ∷ names) h each = (nat_list_cmp_total.trans a b name h each.0, each_later a b names h each.1)

-- ---- which names stand in the list

or_swap : (a b c : Bool) → (a || (b || c)) ≡ (b || (a || c))
or_swap true true c = refl
or_swap true false c = refl
or_swap false true c = refl
or_swap false false c = refl

module _ (test : List ℕ → Bool) where
  any-put_in_order : (name : List ℕ) (names : List (List ℕ)) → list_any test (put_in_order name names)
      ≡ (test name || list_any test names)
  unfolding put_in_order
  any-put_in_order name [] = refl
  any-put_in_order name (first ∷ names) = ⊎_elim
      (λ t. ap (list_any test) (cond-true _ _ _ t) ∙ ap (λ b. test first || b) (any-put_in_order name names)
      ∙ or_swap (test first) (test name) (list_any test names))
      (λ t. ap (list_any test) (cond-false _ _ _ t))
      (cases_Bool (is_lt (slice_cmp nat_cmp first name)))

  pub any-in_byte_order : (names : List (List ℕ)) → list_any test (in_byte_order names) ≡ list_any test names
  unfolding in_byte_order
  any-in_byte_order [] = refl
  any-in_byte_order (name ∷ names) = any-put_in_order name (in_byte_order names)
      ∙ ap (λ b. test name || b) (any-in_byte_order names)

  none_passes : (names : List (List ℕ)) → AllByRecursion (λ y. test y ≡ false) names → list_any test names ≡ false
  none_passes [] each = refl
  none_passes (name ∷ names) each = ap (λ b. b || list_any test names) each.0 ∙ none_passes names each.1

-- ---- that it is in order

module _ (P : List ℕ → Type 0) where
  each-put_in_order : (name : List ℕ) (names : List (List ℕ)) → P name → AllByRecursion P names
      → AllByRecursion P (put_in_order name names)
  unfolding put_in_order
  each-put_in_order name [] here each = (here, tt)
  each-put_in_order name (first ∷ names) here each = ⊎_elim
      (λ t. subst (AllByRecursion P) (sym (cond-true _ _ _ t)) (each.0, each-put_in_order name names here each.1))
      (λ t. subst (AllByRecursion P) (sym (cond-false _ _ _ t)) (here, each))
      (cases_Bool (is_lt (slice_cmp nat_cmp first name)))

sorted-put_in_order : (name : List ℕ) (names : List (List ℕ)) → IsStrictlySortedBy (slice_cmp nat_cmp) names
    → list_any (same_name name) names ≡ false → IsStrictlySortedBy (slice_cmp nat_cmp) (put_in_order name names)
unfolding put_in_order IsStrictlySortedBy
sorted-put_in_order name [] sorted none = (tt, tt)
sorted-put_in_order name (first ∷ names) sorted none =
    let apart = or_parts (same_name name first) (list_any (same_name name) names) none in
    ⊎_elim
    (λ t. subst (IsStrictlySortedBy (slice_cmp nat_cmp)) (sym (cond-true _ _ _ t)) (
      each-put_in_order (λ y. slice_cmp nat_cmp first y ≡ Less) name names (less_is _ t) sorted.0,
      sorted-put_in_order name names sorted.1 apart.1,
    ))
    (λ t.
    let less = less_else first name t apart.0 in
    subst (IsStrictlySortedBy (slice_cmp nat_cmp)) (sym (cond-false _ _ _ t))
    ((less, each_later name first names less sorted.0), sorted))
    (cases_Bool (is_lt (slice_cmp nat_cmp first name)))

pub sorted-in_byte_order : (names : List (List ℕ)) → IsDistinct same_name names
    → IsStrictlySortedBy (slice_cmp nat_cmp) (in_byte_order names)
unfolding in_byte_order IsStrictlySortedBy
sorted-in_byte_order [] distinct = tt
sorted-in_byte_order (name ∷ names) distinct =
    sorted-put_in_order name (in_byte_order names)
    (sorted-in_byte_order names (IsDistinct-tail same_name name names distinct))
    (any-in_byte_order (same_name name) names
    ∙ none_passes (same_name name) names (IsDistinct-head same_name name names distinct))

strictly_sorted : (names : List (List ℕ)) → IsSorted (slice_cmp nat_cmp) names → IsDistinct same_name names
    → IsStrictlySortedBy (slice_cmp nat_cmp) names
strictly_sorted names sorted distinct =
    sorted_from_all_adjacent nat_list_cmp_total names []
    (λ k within. less_else (get_or names (k + 1) []) (get_or names k []) (sorted k [] (omega arith) within)
    (apart_from_distinct same_name names k (k + 1) [] distinct (omega arith) within))

-- Sorted names, of which no two are the same, are the names in byte order of any list that has the same ones, each
-- once.
pub sorted-is-in_byte_order : (sorted names : List (List ℕ)) → IsSorted (slice_cmp nat_cmp) sorted
    → IsDistinct same_name sorted → IsDistinct same_name names
    → ((q : List ℕ) → Contains sorted q → Contains names q) → ((q : List ℕ) → Contains names q → Contains sorted q)
    → sorted ≡ in_byte_order names
sorted-is-in_byte_order sorted names order apart distinct there back =
    btree_set_from_contains nat_list_cmp_total (record { keys = sorted }) (record { keys = in_byte_order names })
    (strictly_sorted sorted order apart) (sorted-in_byte_order names distinct)
    (λ q.
    same_from_decides (list_any (same_name q) sorted) (list_any (same_name q) names)
    (Decides-like _ (there q) (back q) (is_member-Decides same_name-Decides sorted q))
    (is_member-Decides same_name-Decides names q)
    ∙ sym (any-in_byte_order (same_name q) names))
    exact_bytes
