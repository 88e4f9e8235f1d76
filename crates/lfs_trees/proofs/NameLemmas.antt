-- A set of names with one more: `contained` and `with_key`, for `Names::insert`. The set is a list in order, and the
-- order's test says equal just where the bytes are. So whether some name is there is a disjunction over the list, and a
-- key that is put into its place adds its own test to that, wherever the place is (`swapped`); a key that takes the
-- place of an equal one has the same test (`doubled`).
use Rattle.std.proofs.Common.{◌≡◌, ℕ, Bool, true, false, List, [], ◌∷◌, Ordering, refl, sym, ap, ◌∙◌, ⊎_elim}
use Rattle.std.specs.Prelude.{◌||◌, bytes_eq}
use Rattle.std.specs.BTreeSet.{insert_key}
use Rattle.std.specs.Global.{Vec}
use Rattle.std.specs.List.{list_any}
use Rattle.std.specs.Ordering.{is_eq, match_ordering}
use Rattle.std.specs.declared.cmp.Ordering.TheVariants.{Less, Equal, Greater}
use Rattle.std.proofs.lemmas.Bool.{cases_Bool, both_ways, false_from_ne_true}
use Rattle.std.proofs.lemmas.Slice.Eq.{bytes_eq-Decides}

-- equality goes both ways
bytes_eq-sym : (a b : List ℕ) → bytes_eq a b ≡ bytes_eq b a
bytes_eq-sym a b = ⊎_elim
    (λ t. t ∙ sym ((bytes_eq-Decides b a).1 (sym ((bytes_eq-Decides a b).0 t))))
    (λ t. t ∙ sym (false_from_ne_true _ (λ u. both_ways _ t
    ((bytes_eq-Decides a b).1 (sym ((bytes_eq-Decides b a).0 u))))))
    (cases_Bool (bytes_eq a b))

swapped : (a b rest : Bool) → (a || (b || rest)) ≡ (b || (a || rest))
swapped true true rest = refl
swapped true false rest = refl
swapped false true rest = refl
swapped false false rest = refl

doubled : (a rest : Bool) → (a || rest) ≡ (a || (a || rest))
doubled true rest = refl
doubled false rest = refl

module _ (cmp : Vec ℕ → Vec ℕ → Ordering) (same : (a b : Vec ℕ) → is_eq (cmp a b) ≡ bytes_eq a.items b.items) where
  -- the order's test finds the names that have the bytes
  pub contained : (key : Vec ℕ) (ks : List (Vec ℕ)) → list_any (λ k. is_eq (cmp key k)) ks
      ≡ list_any (λ (k : Vec ℕ). bytes_eq k.items key.items) ks
  contained key [] = refl
  contained key (k ∷ ks) =
      ap (λ b. b || list_any (λ (j : Vec ℕ). is_eq (cmp key j)) ks) (same key k ∙ bytes_eq-sym key.items k.items)
      ∙ ap (λ b. bytes_eq k.items key.items || b) (contained key ks)

  module _ (name : List ℕ) where
    abbrev test : Vec ℕ → Bool
    test k = bytes_eq k.items name

    placed : (key x : Vec ℕ) (xs rest : List (Vec ℕ)) → list_any test rest ≡ (test key || list_any test xs)
        → (o : Ordering) → cmp key x ≡ o
        → list_any test (match_ordering o (key ∷ x ∷ xs) (x ∷ xs) (x ∷ rest))
        ≡ (test key || (test x || list_any test xs))
    placed key x xs rest h Less is = refl
    placed key x xs rest h Equal is =
        let one : key.items ≡ x.items = (bytes_eq-Decides key.items x.items).0 (sym (same key x) ∙ ap is_eq is) in
        doubled (test x) (list_any test xs) ∙ ap (λ bs. bytes_eq bs name || (test x || list_any test xs)) (sym one)
    placed key x xs rest h Greater is = ap (λ b. test x || b) h ∙ swapped (test x) (test key) (list_any test xs)

    -- with a key more, a name is there where it has that key's bytes or was there
    pub with_key : (key : Vec ℕ) (ks : List (Vec ℕ)) → list_any test (insert_key cmp ks key)
        ≡ (test key || list_any test ks)
    with_key key [] = refl
    with_key key (x ∷ xs) = placed key x xs (insert_key cmp xs key) (with_key key xs) (cmp key x) refl
