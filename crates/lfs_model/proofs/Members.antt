-- The rows of a directory are just those that hang there, each once and by rising number, and their names differ:
-- `children-has`, `children-hang`, `children-sorted`, and `names_in-has` to `names_in-apart`, for the calls' lemmas and
-- the laws. `children` filters the map's keys by a test on the row, and the keys rise strictly since a map's entries
-- are sorted (`keys_rise`). Names differ as no two rows hang under one parent and name (IsUnique); `children` from
-- another list of numbers would need each in it once.
use Rattle.std.proofs.Common.{◌≡◌, ◌≢◌, ℕ, ◌<◌, Bool, true, false, List, [], ◌∷◌, length, get_or, T, Option, None, Some}
use Rattle.std.proofs.Common.{refl, sym, ap, subst, ◌∙◌, arith}
use Rattle.std.specs.Prelude.{◌==◌, not, map as mapped, AllPairs, Contains, Decides}
use Rattle.std.specs.Cmp.{nat_cmp_total, eq_by_cmp_equiv}
use Rattle.std.specs.FinMap as map
use Rattle.std.specs.FinMap.Entries.{below_all, is_sorted}
use Rattle.std.specs.List.{AllByRecursion}
use Rattle.std.specs.List.Sorted.{IsStrictlySortedBy}
use Rattle.std.specs.Ordering.{nat_cmp, eq_by_cmp, is_lt}
use Rattle.std.specs.declared.cmp.Ordering.TheVariants.{Less}
use Rattle.std.proofs.lemmas.Bool.{and_parts, and_from, not-true, eqb-true, eqb-false, eq-eqb, ne_eqb}
use Rattle.std.proofs.lemmas.List.{get_or-map, length-map}
use Rattle.std.proofs.lemmas.List.Elements.{All-contains, Contains-get_or, filter_passes}
use Rattle.std.proofs.lemmas.List.Kept.{AllPairs-from_increasing, IsStrictlySortedBy-filter}
use Rattle.std.proofs.lemmas.Map.Keys.{IsStrictlyIncreasing-from_sorted}
use Rattle.std.proofs.lemmas.Map.Made.{is_member-Decides, is_member-filter}
use Rattle.lfs_types.specs.Tree.{Row, root}
use Rattle.lfs_model.specs.World.{Rows, hangs_in, children, name_of, IsChild}
use Rattle.lfs_model.specs.Effects.{names_in}
use Rattle.lfs_model.proofs.ByteOrder.{less_is}
use Rattle.lfs_model.proofs.Children.{IsUnique}
use Rattle.lfs_types.proofs.Maps.{is_key, number_eq-true, number_eq-same}

-- ---- lists

-- the order's test of two numbers decides whether they are equal
pub number_eq-Decides : (a b : ℕ) → Decides (eq_by_cmp nat_cmp a b) (a ≡ b)
number_eq-Decides a b = (number_eq-true a b, number_eq-same a b)

-- what a list has is mapped with it
pub Contains-map : {X Y : Type 0} (f : X → Y) (xs : List X) (x : X) → Contains xs x → Contains (mapped f xs) (f x)
Contains-map f xs x c = (c.0, omega (arith, length-map xs f, c.1), get_or-map f xs c.0 x (f x) c.1 ∙ ap f c.2)

-- what a mapped list has comes from an element
pub Contains-from_map : {X Y : Type 0} (f : X → Y) (xs : List X) (d : X) (y : Y) → Contains (mapped f xs) y → (x : X)
    × Contains xs x × (f x ≡ y)
Contains-from_map f xs d y c =
    let within : c.0 < length xs = omega (arith, length-map xs f, c.1) in
    (get_or xs c.0 d, Contains-get_or xs c.0 d within, sym (get_or-map f xs c.0 d y within) ∙ c.2)

-- a list that contains nothing has no elements
no_element : (ns : List ℕ) → ((n : ℕ) → Contains ns n → ⊥) → length ns ≡ 0
no_element [] none = refl
no_element (n ∷ ns) none = absurd (none n (0, omega arith, refl))

-- ---- the keys of a map rise

true_from : (b : Bool) → T b → b ≡ true
true_from true t = refl
true_from false t = absurd t

module _ {X : Type 0} where
  each_above : (n : ℕ) (es : List (ℕ × X)) → below_all nat_cmp n es ≡ true
      → AllByRecursion (λ m. nat_cmp n m ≡ Less) (mapped (λ (e : ℕ × X). e.0) es)
  each_above n [] h = tt
  each_above n (e ∷ es) h =
      let two = and_parts (is_lt (nat_cmp n e.0)) (below_all nat_cmp n es) h in
      (less_is (nat_cmp n e.0) two.0, each_above n es two.1)

  keys_rise : (es : List (ℕ × X)) → is_sorted nat_cmp es ≡ true
      → IsStrictlySortedBy nat_cmp (mapped (λ (e : ℕ × X). e.0) es)
  unfolding IsStrictlySortedBy
  keys_rise [] h = tt
  keys_rise (e ∷ es) h =
      let two = and_parts (below_all nat_cmp e.0 es) (is_sorted nat_cmp es) h in
      (each_above e.0 es two.0, keys_rise es two.1)

-- ---- the rows that hang in a directory

hanging_in : (rows : Rows) (parent n : ℕ) (o : Option Row) → map.get rows n ≡ o → hangs_in parent n o ≡ true
    → IsChild rows parent (name_of o) n
hanging_in rows parent n None is h = absurd (cc)
hanging_in rows parent n (Some r) is h =
    let two = and_parts (not (n == root)) (r.parent == parent) h in
    record {
      row = r;
      there = is;
      below = eqb-false n root (not-true (n == root) two.0);
      hangs = eqb-true r.parent parent two.1;
      named = refl;
    }

module _ (rows : Rows) (parent : ℕ) where
  -- what hangs in a directory is one of its rows
  pub children-has : (name : List ℕ) (n : ℕ) → IsChild rows parent name n → Contains (children rows parent) n
  unfolding children
  children-has name n c =
      let test = λ (m : ℕ). hangs_in parent m (map.get rows m) in
      let hangs : test n ≡ true = ap (hangs_in parent n) c.there
      ∙ and_from _ _ (ap not (ne_eqb n root c.below)) (eq-eqb c.row.parent parent c.hangs) in
      (is_member-Decides number_eq-Decides (children rows parent) n).0
      (is_member-filter (eq_by_cmp_equiv nat_cmp_total) test n (λ x same. ap test (number_eq-true n x same))
      (map.keys rows)
      ∙ and_from _ _ (is_key rows n c.row c.there) hangs)

  -- a row of a directory hangs there under its name
  pub children-hang : (n : ℕ) → Contains (children rows parent) n → IsChild rows parent (name_of (map.get rows n)) n
  unfolding children
  children-hang n c =
      let test = λ (m : ℕ). hangs_in parent m (map.get rows m) in
      hanging_in rows parent n (map.get rows n) refl
      (All-contains (λ m. test m ≡ true) (children rows parent) n (filter_passes test (map.keys rows)) c)

  -- a row in which nothing hangs has no children
  pub children-none : ((name : List ℕ) (n : ℕ) → IsChild rows parent name n → ⊥) → (length (children rows parent) == 0)
      ≡ true
  children-none none = eq-eqb _ 0 (no_element (children rows parent) (λ n c. none _ n (children-hang n c)))

  -- its rows are listed by number
  pub children-sorted : IsStrictlySortedBy nat_cmp (children rows parent)
  unfolding children
  children-sorted =
      IsStrictlySortedBy-filter nat_cmp (λ m. hangs_in parent m (map.get rows m)) (map.keys rows)
      (keys_rise (map.entries rows) (true_from _ (map.entries_sorted rows)))

  -- a directory has each of its rows once
  pub children-rise : AllPairs (λ (m n : ℕ). m < n) (children rows parent)
  children-rise = AllPairs-from_increasing (children rows parent)
      (IsStrictlyIncreasing-from_sorted (children rows parent) children-sorted)

  -- ---- their names

  -- the names have that of each row that hangs there
  pub names_in-has : (name : List ℕ) (n : ℕ) → IsChild rows parent name n → Contains (names_in rows parent) name
  names_in-has name n c =
      subst (Contains (names_in rows parent)) (ap name_of c.there ∙ c.named)
      (Contains-map (λ m. name_of (map.get rows m)) (children rows parent) n (children-has name n c))

  -- each of them is such a row's
  pub names_in-hang : (name : List ℕ) → Contains (names_in rows parent) name → (n : ℕ) × IsChild rows parent name n
  names_in-hang name c =
      let from = Contains-from_map (λ m. name_of (map.get rows m)) (children rows parent) 0 name c in
      (from.0, subst (λ q. IsChild rows parent q from.0) from.2 (children-hang from.0 from.1))

  -- no two rows of a directory have one name
  pub names_in-apart : IsUnique rows → AllPairs (λ (p q : List ℕ). p ≢ q) (names_in rows parent)
  names_in-apart unique i j d before within = λ same.
      let ns = children rows parent in
      let f = λ (m : ℕ). name_of (map.get rows m) in
      let inside : j < length ns = omega (arith, length-map ns f) in
      let earlier : i < length ns = omega arith in
      let m = get_or ns i 0 in
      let n = get_or ns j 0 in
      let names : f m ≡ f n = sym (get_or-map f ns i 0 d earlier) ∙ same ∙ get_or-map f ns j 0 d inside in
      let one : m ≡ n = unique parent (f n) m n
      (subst (λ q. IsChild rows parent q m) names (children-hang m (Contains-get_or ns i 0 earlier)))
      (children-hang n (Contains-get_or ns j 0 inside)) in
      let less : m < n = children-rise i j 0 before inside in
      omega (arith, one, less)
