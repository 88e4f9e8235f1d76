-- Nodes stay true of the tree through a Rename: `stayed_nodes` and `renamed_nodes`, for `Nodes::moved`. The node at the
-- old place is the moved row's and no other is (`its_row`, `its_id`), so hanging it at the new place says what the row
-- says; a node that hung there is gone first, as its row is (`to_taken`). That row had no children, so no node hangs
-- beneath it; were a directory replaced with its rows, nodes would hang in one that is gone.
use Rattle.std.proofs.Common.{◌≡◌, ◌≢◌, ℕ, List, [], Option, None, Some, true, false, refl, sym, ap, subst, ◌∙◌, ⊎_elim}
use Rattle.std.proofs.Common.{length}
use Rattle.std.specs.Prelude.{IsSome, ◌==◌, if◌then◌else◌}
use Rattle.std.specs.Option.{option_map}
use Rattle.std.specs.FinMap as map
use Rattle.std.proofs.lemmas.Bool.{cases_eq, cond-true, cond-false, eq-eqb, ne_eqb}
use Rattle.lfs_types.specs.Tree.{Row, World, root}
use Rattle.lfs_types.proofs.Somewhere.{some_and, there_of}
use Rattle.lfs_model.specs.World.{Rows, child, children, IsChild, IsTree}
use Rattle.lfs_model.specs.Effects.{after_rename, with_place, without_row}
use Rattle.lfs_model.proofs.Children.{child-is, child-none}
use Rattle.lfs_model.proofs.EffectTree.{childless}
use Rattle.lfs_nodes.specs.declared.place.Place.{Place}
use Rattle.lfs_nodes.specs.declared.node.Hang.TheVariants.{Root, At, Gone}
use Rattle.lfs_nodes.specs.declared.node.Node.{Node}
use Rattle.lfs_nodes.specs.declared.parts.Parts.{Parts}
use Rattle.lfs_nodes.specs.Changes.{hung}
use Rattle.lfs_nodes.specs.Maps.{node_at, id_at, changed_at}
use Rattle.lfs_nodes.specs.Moves.{gone_at, hung_at, moved_at}
use Rattle.lfs_nodes.specs.Nodes.{AreNodes, known, live_row, shown}
use Rattle.lfs_nodes.specs.Reads.{number_in}
use Rattle.lfs_nodes.specs.Whole.{IsWhole}
use Rattle.lfs_nodes.proofs.ChangeLemmas.{named_known, its_row, its_id, removed_nodes, taken_row, taken_else}
use Rattle.lfs_nodes.proofs.HoldsLemmas.{live_number}
use Rattle.lfs_nodes.proofs.NodesLemmas.{place_in, one_place, nodes_same, nodes_moved, hung_row as row_of_hung}
use Rattle.lfs_nodes.proofs.PlaceLemmas.{place_is}
use Rattle.lfs_nodes.proofs.TableLemmas.{changed_here, changed_else, changed_keeps, read_there}

hung_row : (place : Place) (o : Option Node) (n : ℕ) → number_in o ≡ Some n → live_row (option_map (hung (At place)) o)
    ≡ Some n
hung_row place None n e = absurd (cc)
hung_row place (Some m) n e = e

hung_place : (place : Place) (o : Option Node) (n : ℕ) → number_in o ≡ Some n
    → place_in (option_map (hung (At place)) o) ≡ Some place
hung_place place None n e = absurd (cc)
hung_place place (Some m) n e = refl

-- a node that is gone keeps its row's number
gone_number : (o : Option ℕ) (K : ℕ → Option Node) (q : ℕ) → number_in (gone_at o K q) ≡ number_in (K q)
gone_number None K q = refl
gone_number (Some k) K q = changed_keeps K k (hung Gone) (λ n. n.row) (λ n. refl) q

-- what becomes of a node depends on it alone
gone_same : (o : Option ℕ) (K M : ℕ → Option Node) (q : ℕ) → M q ≡ K q → gone_at o M q ≡ gone_at o K q
gone_same None K M q e = e
gone_same (Some k) K M q e = ap (λ x. if q == k then option_map (hung Gone) x else x) e

module _ (rows : Rows) (K : ℕ → Option Node) (are : AreNodes rows K) (from : Option ℕ) (to : Option ℕ) (before : ℕ
    → Option Node) (same : (q : ℕ) → K q ≡ gone_at to before q)
    (place : Place) (t n : ℕ) (row : Row) (below : n ≡ root → ⊥) (parent : live_row (K place.parent) ≡ Some t)
    (found : (q : ℕ) → live_row (K q) ≡ Some n → from ≡ Some q) (its : (k : ℕ) → from ≡ Some k → live_row (K k)
    ≡ Some n) where
  abbrev after : ℕ → Option Node
  after q = moved_at from to place before q

  here : (k : ℕ) → from ≡ Some k → after k ≡ option_map (hung (At place)) (gone_at to (gone_at from before) k)
  here k e = ap (λ o. hung_at o place (gone_at to (gone_at from before)) k) e
      ∙ changed_here (gone_at to (gone_at from before)) k (hung (At place))

  number : (k : ℕ) → from ≡ Some k → number_in (gone_at to (gone_at from before) k) ≡ Some n
  number k e = gone_number to (gone_at from before) k ∙ gone_number from before k ∙ sym (gone_number to before k)
      ∙ sym (ap number_in (same k)) ∙ live_number (K k) n (its k e)

  elsewhere : (o : Option ℕ) → from ≡ o → (q : ℕ) → (from ≡ Some q → ⊥) → after q ≡ K q
  elsewhere None e q apart = ap (λ o. moved_at o to place before q) e ∙ sym (same q)
  elsewhere (Some k) e q apart =
      let ne : q ≢ k = λ f. apart (e ∙ ap Some (sym f)) in
      ap (λ o. moved_at o to place before q) e
      ∙ changed_else (gone_at to (gone_at (Some k) before)) k (hung (At place)) q ne
      ∙ gone_same to before (gone_at (Some k) before) q (changed_else before k (hung Gone) q ne) ∙ sym (same q)

  numbers : (o : Option ℕ) → from ≡ o → (q : ℕ) → live_row (after q) ≡ live_row (K q)
  numbers None e q = ap live_row (elsewhere None e q (λ f. let wrong : None ≡ Some q = sym e ∙ f in absurd (cc)))
  numbers (Some k) e q = ⊎_elim
      (λ f. let is : from ≡ Some q = e ∙ ap Some (sym f) in ap live_row (here q is) ∙ hung_row place _ n (number q is)
      ∙ sym (its q is))
      (λ ne. ap live_row (elsewhere (Some k) e q
      (λ f. ne (let two : Some k ≡ Some q = sym e ∙ f in let g : k ≡ q = cc in sym g))))
      (cases_eq q k)

  pub hung_nodes : AreNodes (map.insert rows n (record row { parent = t; name = place.name })) after
  hung_nodes = nodes_moved rows K are after n t
      (record row { parent = t; name = place.name }) place below refl refl parent
      (numbers from refl)
      (λ q apart. ap place_in (elsewhere from refl q (λ e. apart (its q e))))
      (λ q e. let is = found q e in ap place_in (here q is) ∙ hung_place place _ n (number q is))

module _ (parts : Parts) (whole : IsWhole parts) (w : World) (tree : IsTree w.rows)
    (are : AreNodes w.rows (known parts)) (from to : Place) (p t n : ℕ)
    (up : live_row (known parts from.parent) ≡ Some p) (down : live_row (known parts to.parent) ≡ Some t)
    (hangs : IsChild w.rows p from.name n) where
  -- where the row has the place already, nothing changes
  pub stayed_nodes : from ≡ to → (L : ℕ → Option Node) → ((q : ℕ) → L q ≡ known parts q) → (o : Option ℕ)
      → child w.rows t to.name ≡ o → AreNodes (after_rename w n o t to.name).rows L
  stayed_nodes same L stays o e = by_child o e
    where
      two : Some p ≡ Some t
      two = sym up ∙ ap (λ (x : Place). live_row (known parts x.parent)) same ∙ down

      there : IsChild w.rows t to.name n
      there = let one : p ≡ t = cc (two) in subst (λ x. IsChild w.rows x to.name n) one
          (subst (λ (x : Place). IsChild w.rows p x.name n) same hangs)

      by_child : (o : Option ℕ) → child w.rows t to.name ≡ o → AreNodes (after_rename w n o t to.name).rows L
      by_child None e = absurd (child-none w.rows t to.name e n there)
      by_child (Some m) e =
          let is = tree.unique t to.name m n (child-is w.rows t to.name m e) there in
          subst (λ (x : World). AreNodes x.rows L) (sym (cond-true (m == n) w _ (eq-eqb m n is)))
          (nodes_same w.rows (known parts) are L (λ q. ap place_in (stays q)) (λ q. ap live_row (stays q)))

  module _ (apart : from ≢ to) where
    abbrev K : ℕ → Option Node
    K = known parts

    abbrev F : Option ℕ
    F = id_at parts.index from

    abbrev T : Option ℕ
    T = id_at parts.index to

    -- a row that hangs at the new place is another
    other_row : (m : ℕ) → IsChild w.rows t to.name m → m ≢ n
    other_row m c e =
        let one = one_place w.rows p t n from.name to.name hangs (subst (IsChild w.rows t to.name) e c) in
        apart (place_is from to (are.apart from.parent to.parent p up (down ∙ ap Some (sym one.0))) one.1)

    placed : (x : World) (r : Row) → map.get w.rows n ≡ Some r → (with_place (map.get w.rows n) n t to.name x).rows
        ≡ map.insert x.rows n (record r { parent = t; name = to.name })
    placed x r e = ap (λ o. (with_place o n t to.name x).rows) e

    -- where nothing hangs, there is no node
    free : child w.rows t to.name ≡ None → (x : Option ℕ) → T ≡ x → T ≡ None
    free none None is = is
    free none (Some k) is =
        let at = named_known parts whole to k is in
        let row = there_of _ (row_of_hung (K k) to at) in
        let above = some_and _ _ (are.hung k to row.value at row.is) in
        let two : Some above.value ≡ Some t = sym above.is ∙ down in
        let one : above.value ≡ t = cc in
        absurd (child-none w.rows t to.name none row.value
        (subst (λ x. IsChild w.rows x to.name row.value) one above.holds))

    found : (q : ℕ) → live_row (K q) ≡ Some n → F ≡ Some q
    found q e = its_id parts whole w.rows tree are from p n up hangs q e

    its : (k : ℕ) → F ≡ Some k → live_row (K k) ≡ Some n
    its k e = its_row parts whole w.rows tree are from p n up hangs k e

    to_free : child w.rows t to.name ≡ None → AreNodes (after_rename w n None t to.name).rows (λ q. moved_at F T to K q)
    to_free e =
        let none = free e T refl in
        subst (λ r. AreNodes r (λ q. moved_at F T to K q)) (sym (placed w hangs.row hangs.there))
        (hung_nodes w.rows K are F T K (λ q. sym (ap (λ x. gone_at x K q) none)) to t n hangs.row hangs.below down found
        its)

    module _ (m : ℕ) (c : IsChild w.rows t to.name m) (none_in : (name : List ℕ) (k : ℕ) → IsChild w.rows m name k
        → ⊥) where
      abbrev K1 : ℕ → Option Node
      K1 q = gone_at T K q

      some : (k : ℕ) → T ≡ Some k → (q : ℕ) → K1 q ≡ changed_at k (hung Gone) K q
      some k is q = ap (λ x. gone_at x K q) is

      none : T ≡ None → (q : ℕ) → K1 q ≡ K q
      none is q = ap (λ x. gone_at x K q) is

      t_row : (k : ℕ) → T ≡ Some k → live_row (K k) ≡ Some m
      t_row k is = its_row parts whole w.rows tree are to t m down c k is

      keep : (q : ℕ) → (T ≡ Some q → ⊥) → K1 q ≡ K q
      keep q apart = taken_else K K1 T some none q apart

      parent1 : live_row (K1 to.parent) ≡ Some t
      parent1 = ap live_row (keep to.parent (λ is.
          let two : Some m ≡ Some t = sym (t_row to.parent is) ∙ down in
          let one : m ≡ t = cc in
          none_in to.name m (subst (λ x. IsChild w.rows x to.name m) (sym one) c))) ∙ down

      found1 : (q : ℕ) → live_row (K1 q) ≡ Some n → F ≡ Some q
      found1 q e = found q (sym (ap live_row (keep q (λ is. let wrong : None
          ≡ Some n = sym (taken_row K K1 T some none q is) ∙ e in absurd (cc)))) ∙ e)

      its1 : (k : ℕ) → F ≡ Some k → live_row (K1 k) ≡ Some n
      its1 k e = ap live_row (keep k (λ is. other_row m c (let two : Some m ≡ Some n = sym (t_row k is)
          ∙ its k e in (cc)))) ∙ its k e

      to_taken : AreNodes (after_rename w n (Some m) t to.name).rows (λ q. moved_at F T to K q)
      to_taken =
          let are1 = removed_nodes parts whole w.rows tree are to t m down c none_in K1 some none in
          let all = hung_nodes (map.remove w.rows m) K1 are1 F T K
          (λ q. refl) to t n hangs.row hangs.below parent1 found1 its1 in
          subst (λ r. AreNodes r (λ q. moved_at F T to K q))
          (sym (ap (λ (x : World). x.rows) (cond-false (m == n) w _ (ne_eqb m n (other_row m c)))
          ∙ placed (without_row m w) hangs.row hangs.there)) all

    pub renamed_nodes : ((m : ℕ) → child w.rows t to.name ≡ Some m → m ≢ n → children w.rows m ≡ [])
        → (L : ℕ → Option Node) → ((q : ℕ) → L q ≡ moved_at F T to K q)
        → (o : Option ℕ) → child w.rows t to.name ≡ o → AreNodes (after_rename w n o t to.name).rows L
    renamed_nodes empty L moved None e = nodes_same _ (λ q. moved_at F T to K q) (to_free e) L
        (λ q. ap place_in (moved q)) (λ q. ap live_row (moved q))
    renamed_nodes empty L moved (Some m) e =
        let c = child-is w.rows t to.name m e in
        nodes_same _ (λ q. moved_at F T to K q) (to_taken m c
        (childless w.rows m (ap (λ xs. length xs == 0) (empty m e (other_row m c))))) L (λ q. ap place_in (moved q))
        (λ q. ap live_row (moved q))

live_there : (o : Option Node) (n : ℕ) → live_row (option_map shown o) ≡ Some n → IsSome o
live_there None n e = absurd (cc)
live_there (Some m) n e = refl

-- a node that is live is known
pub live_known : (parts : Parts) (q n : ℕ) → live_row (known parts q) ≡ Some n → IsSome (node_at parts.table q)
live_known parts q n e = live_there (node_at parts.table q) n e
