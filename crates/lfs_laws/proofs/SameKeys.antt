-- Maps by number that have the same numbers list them alike: `same_keys`, for LawReads and IdleLemmas. What a map
-- lists, taken without the values, is sorted still and finds the same numbers (`sorted-bare`, `find-bare`), and sorted
-- lists that find the same are one. So the law of maps that are equal at each key does for maps of other values.
use Rattle.std.proofs.Common.{◌≡◌, ℕ, true, false, cond, T, List, [], ◌∷◌, map, Option, None, Some, refl, sym, ap}
use Rattle.std.proofs.Common.{subst, ◌∙◌}
use Rattle.std.specs.Prelude.{◌&&◌, is_some, option_map}
use Rattle.std.specs.Ordering.{nat_cmp, is_lt, eq_by_cmp}
use Rattle.std.specs.Cmp.{nat_cmp_total}
use Rattle.std.specs.FinMap.{FinMap, get, keys, entries, entries_sorted, get-entries, nat_cmp-IsAntisymmetric}
use Rattle.std.specs.FinMap.Entries.{find, below_all, is_sorted, same_entries}

module _ {X : Type 0} where
  abbrev bare : List (ℕ × X) → List (ℕ × Unit {0})
  bare es = map (λ e. (e.0, tt)) es

  below-bare : (k : ℕ) (es : List (ℕ × X)) → below_all nat_cmp k (bare es) ≡ below_all nat_cmp k es
  below-bare k [] = refl
  below-bare k (e ∷ es) = ap (λ b. is_lt (nat_cmp k e.0) && b) (below-bare k es)

  sorted-bare : (es : List (ℕ × X)) → is_sorted nat_cmp (bare es) ≡ is_sorted nat_cmp es
  sorted-bare [] = refl
  sorted-bare (e ∷ es) = λ i. below-bare e.0 es i && sorted-bare es i

  bare_option : Option X → Option (Unit {0})
  bare_option = option_map (λ x. tt)

  find-bare : (q : ℕ) (es : List (ℕ × X)) → find nat_cmp q (bare es) ≡ bare_option (find nat_cmp q es)
  unfolding bare_option
  find-bare q [] = refl
  find-bare q (e ∷ es) = elim (eq_by_cmp nat_cmp q e.0) as (λ b. cond b (Some tt) (find nat_cmp q (bare es))
      ≡ bare_option (cond b (Some e.1) (find nat_cmp q es))) [
        | true ↦ refl
        | false ↦ find-bare q es
      ]

  keys-bare : (es : List (ℕ × X)) → map (λ e. e.0) (bare es) ≡ map (λ e. e.0) es
  keys-bare [] = refl
  keys-bare (e ∷ es) = ap (λ ks. e.0 ∷ ks) (keys-bare es)

  same_bare : (o p : Option X) → is_some o ≡ is_some p → bare_option o ≡ bare_option p
  unfolding bare_option
  same_bare None None h = refl
  same_bare None (Some y) h = absurd (cc)
  same_bare (Some x) None h = absurd (cc)
  same_bare (Some x) (Some y) h = refl

  -- two such maps have one list of numbers
  pub same_keys : (m n : FinMap nat_cmp X) → ((q : ℕ) → is_some (get m q) ≡ is_some (get n q)) → keys m ≡ keys n
  same_keys m n h =
      let found = λ (q : ℕ). find-bare q (entries m)
      ∙ same_bare _ _ (sym (ap is_some (get-entries m q)) ∙ h q ∙ ap is_some (get-entries n q))
      ∙ sym (find-bare q (entries n)) in
      sym (keys-bare (entries m))
      ∙ ap (map (λ e. e.0)) (same_entries nat_cmp nat_cmp_total nat_cmp-IsAntisymmetric (bare (entries m))
      (bare (entries n))
      (subst T (sym (sorted-bare (entries m))) (entries_sorted m))
      (subst T (sym (sorted-bare (entries n))) (entries_sorted n)) found)
      ∙ keys-bare (entries n)
