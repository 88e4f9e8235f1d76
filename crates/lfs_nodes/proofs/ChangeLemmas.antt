-- Nodes stay true of the tree through look-ups, removals and changes of counts: `looked_up_nodes`, `removed_nodes`,
-- `counted_nodes`, for `Nodes::look_up`, `removed`, and `Parts::open`, `close`, `forget`. The id at a place is that of
-- the row's node (`its_row`, `its_id`), since names are unique in a tree and nodes apart; a look-up that finds none
-- gives the next id, which is of no node. Two nodes of one row would give a file two identities in the kernel, and a
-- removal would reach one of them.
use Rattle.std.proofs.Common.{◌≡◌, ◌≢◌, ℕ, List, Option, None, Some, refl, sym, ap, subst, ◌∙◌}
use Rattle.std.proofs.Common.{⊎_elim, ◌+◌, Result, Ok, Err, arith}
use Rattle.std.specs.Prelude.{IsSome, IfOk, OnErr}
use Rattle.std.specs.Option.{option_map}
use Rattle.std.specs.FinMap as map
use Rattle.std.proofs.lemmas.Bool.{cases_eq}
use Rattle.lfs_types.specs.Tree.{root}
use Rattle.lfs_types.proofs.Somewhere.{some_and, there_of}
use Rattle.lfs_model.specs.World.{Rows, IsChild, IsTree}
use Rattle.lfs_model.proofs.EffectTree.{childless}
use Rattle.lfs_nodes.specs.declared.place.Place.{Place}
use Rattle.lfs_nodes.specs.declared.node.Hang.{Hang}
use Rattle.lfs_nodes.specs.declared.node.Hang.TheVariants.{Root, At, Gone}
use Rattle.lfs_nodes.specs.declared.node.Node.{Node}
use Rattle.lfs_nodes.specs.declared.parts.Parts.{Parts}
use Rattle.lfs_nodes.specs.Changes.{hung, one_look_up_more}
use Rattle.lfs_nodes.specs.Maps.{node_at, id_at, changed_at}
use Rattle.lfs_nodes.specs.Places.{place_of}
use Rattle.lfs_nodes.specs.Reads.{hang_in, number_in}
use Rattle.lfs_nodes.specs.Nodes.{AreNodes, known, live_row, shown, IsKnownAs}
use Rattle.lfs_nodes.specs.Holds.{fresh}
use Rattle.lfs_nodes.specs.declared.fault.LookUpFault.{LookUpFault}
use Rattle.lfs_nodes.specs.Whole.{IsWhole}
use Rattle.lfs_nodes.proofs.HoldsLemmas.{hang_shown, number_shown, live_number}
use Rattle.lfs_nodes.proofs.NodesLemmas.{place_in, stands_there, hung_row, nodes_new, nodes_removed}
use Rattle.lfs_nodes.proofs.NodesLemmas.{nodes_same}
use Rattle.lfs_nodes.proofs.TableLemmas.{changed_here, changed_else}

-- the root's node is of the root's row
live_root : (o : Option Node) → hang_in o ≡ Some Root → live_row o ≡ number_in o
live_root None e = refl
live_root (Some n) e = rooted n.hang n refl e
  where
    rooted : (h : Hang) (n : Node) → n.hang ≡ h → Some n.hang ≡ Some Root → live_row (Some n) ≡ number_in (Some n)
    rooted Root n is e = subst (λ h. live_row (Some (record n { hang = h })) ≡ Some n.row) (sym is) refl
    rooted (At place) n is e = let wrong : Some (At place) ≡ Some Root = sym (ap Some is) ∙ e in absurd (cc)
    rooted Gone n is e = let wrong : Some Gone ≡ Some Root = sym (ap Some is) ∙ e in absurd (cc)

there_mapped : (o : Option Node) → IsSome (hang_in o) → IsSome (option_map shown o)
there_mapped None h = absurd (cc)
there_mapped (Some n) h = refl

module _ (parts : Parts) (whole : IsWhole parts) where
  same_hang : (q : ℕ) → hang_in (known parts q) ≡ hang_in (node_at parts.table q)
  same_hang q = hang_shown (node_at parts.table q)

  pub rooted_known : (q : ℕ) → hang_in (known parts q) ≡ Some Root → live_row (known parts q) ≡ Some root
  rooted_known q e =
      let one = whole.rooted q (sym (same_hang q) ∙ e) in
      live_root (known parts q) e ∙ number_shown (node_at parts.table q)
      ∙ ap (λ x. number_in (node_at parts.table x)) one ∙ whole.row

  pub indexed_known : (q : ℕ) (place : Place) → place_in (known parts q) ≡ Some place → id_at parts.index place ≡ Some q
  indexed_known q place e = whole.indexed q place (sym (ap place_of (same_hang q)) ∙ e)

  pub named_known : (place : Place) (q : ℕ) → id_at parts.index place ≡ Some q → place_in (known parts q) ≡ Some place
  named_known place q e = ap place_of (same_hang q) ∙ whole.named place q e

  pub parents_known : (q : ℕ) (place : Place) → place_in (known parts q) ≡ Some place
      → IsSome (known parts place.parent)
  parents_known q place e = there_mapped (node_at parts.table place.parent)
      (whole.parents q place (sym (ap place_of (same_hang q)) ∙ e))

  module _ (rows : Rows) (tree : IsTree rows) (are : AreNodes rows (known parts)) (place : Place) (p n : ℕ)
      (parent : live_row (known parts place.parent) ≡ Some p)
      (hangs : IsChild rows p place.name n) where
    -- the node at the place is the row's
    pub its_row : (k : ℕ) → id_at parts.index place ≡ Some k → live_row (known parts k) ≡ Some n
    its_row k e =
        let at = named_known place k e in
        let row = there_of _ (hung_row (known parts k) place at) in
        let up = some_and _ _ (are.hung k place row.value at row.is) in
        let same : Some up.value ≡ Some p = sym up.is ∙ parent in
        let one : up.value ≡ p = cc in
        row.is ∙ ap Some (tree.unique p place.name row.value n
        (subst (λ x. IsChild rows x place.name row.value) one up.holds) hangs)

    -- the row's node is at the place
    pub its_id : (q : ℕ) → live_row (known parts q) ≡ Some n → id_at parts.index place ≡ Some q
    its_id q e = indexed_known q place (stands_there rows (known parts) are rooted_known place p n parent hangs q e)

gone_row : (o : Option Node) → live_row (option_map (hung Gone) o) ≡ None
gone_row None = refl
gone_row (Some n) = refl

-- an id at a place is taken from there
module _ (K L : ℕ → Option Node) (o : Option ℕ) (some : (k : ℕ) → o ≡ Some k → (q : ℕ) → L q
    ≡ changed_at k (hung Gone) K q) (none : o ≡ None → (q : ℕ) → L q ≡ K q) where
  pub taken_row : (k : ℕ) → o ≡ Some k → live_row (L k) ≡ None
  taken_row k e = ap live_row (some k e k ∙ changed_here K k (hung Gone)) ∙ gone_row (K k)

  pub taken_else : (q : ℕ) → (o ≡ Some q → ⊥) → L q ≡ K q
  taken_else q apart = by_answer o refl
    where
      by_answer : (x : Option ℕ) → o ≡ x → L q ≡ K q
      by_answer None e = none e q
      by_answer (Some k) e = some k e q ∙ changed_else K k (hung Gone) q (λ same. apart (e ∙ ap Some (sym same)))

-- a removal: the row's node is taken from its place
pub removed_nodes : (parts : Parts) (whole : IsWhole parts) (rows : Rows) (tree : IsTree rows)
    (are : AreNodes rows (known parts)) (place : Place) (p n : ℕ)
    → live_row (known parts place.parent) ≡ Some p → IsChild rows p place.name n
    → ((name : List ℕ) (m : ℕ) → IsChild rows n name m → ⊥)
    → (L : ℕ → Option Node) → ((k : ℕ) → id_at parts.index place ≡ Some k → (q : ℕ) → L q
    ≡ changed_at k (hung Gone) (known parts) q)
    → (id_at parts.index place ≡ None → (q : ℕ) → L q ≡ known parts q) → AreNodes (map.remove rows n) L
removed_nodes parts whole rows tree are place p n parent hangs childless L some none =
    let K = known parts in
    let o = id_at parts.index place in
    nodes_removed rows K are L n childless
    (λ q apart. let same = taken_else K L o some none q
    (λ e. apart (its_row parts whole rows tree are place p n parent hangs q e)) in
    (ap place_in same, ap live_row same))
    (λ q e. taken_row K L o some none q (its_id parts whole rows tree are place p n parent hangs q e))

-- a look-up that gives a new id
pub found_nodes : (parts : Parts) (whole : IsWhole parts) (rows : Rows) (tree : IsTree rows)
    (are : AreNodes rows (known parts)) (place : Place) (p n : ℕ)
    → live_row (known parts place.parent) ≡ Some p → IsChild rows p place.name n → id_at parts.index place ≡ None
    → (L : ℕ → Option Node) (id : ℕ) → ((q : ℕ) → q ≢ id → L q ≡ known parts q) → live_row (known parts id) ≡ None
    → place_in (L id) ≡ Some place → live_row (L id) ≡ Some n → AreNodes rows L
found_nodes parts whole rows tree are place p n parent hangs free L id others fresh at row =
    nodes_new rows (known parts) are L id place p n others fresh at row parent hangs
    (λ q e. let wrong : None ≡ Some q = sym free
    ∙ its_id parts whole rows tree are place p n parent hangs q e in absurd (cc))

-- the next id isn't known yet
unknown_next : (parts : Parts) (whole : IsWhole parts) (id : ℕ) → id ≡ parts.next → live_row (known parts id) ≡ None
unknown_next parts whole id e = ap live_row (ap (option_map shown) (absent (node_at parts.table id) refl))
  where
    absent : (o : Option Node) → node_at parts.table id ≡ o → node_at parts.table id ≡ None
    absent None is = is
    absent (Some m) is = let low = whole.below id m.hang (ap hang_in is) in absurd (omega arith)

-- a change of counts alone
module _ (K : ℕ → Option Node) (id : ℕ) (change : Node → Node) (hangs : (n : Node) → (change n).hang ≡ n.hang)
    (rows_same : (n : Node) → live_row (Some (change n)) ≡ live_row (Some n)) where
  counted_place : (o : Option Node) → place_in (option_map change o) ≡ place_in o
  counted_place None = refl
  counted_place (Some n) = ap (λ h. place_of (Some h)) (hangs n)

  counted_row : (o : Option Node) → live_row (option_map change o) ≡ live_row o
  counted_row None = refl
  counted_row (Some n) = rows_same n

  pub counted_nodes : (rows : Rows) → AreNodes rows K → (L : ℕ → Option Node)
      → ((q : ℕ) → L q ≡ changed_at id change K q) → AreNodes rows L
  counted_nodes rows are L after = nodes_same rows K are L
      (λ q. ⊎_elim
      (λ e. ap place_in (after q ∙ ap (changed_at id change K) e ∙ changed_here K id change) ∙ counted_place (K id)
      ∙ ap (λ x. place_in (K x)) (sym e))
      (λ ne. ap place_in (after q ∙ changed_else K id change q ne))
      (cases_eq q id))
      (λ q. ⊎_elim
      (λ e. ap live_row (after q ∙ ap (changed_at id change K) e ∙ changed_here K id change) ∙ counted_row (K id)
      ∙ ap (λ x. live_row (K x)) (sym e))
      (λ ne. ap live_row (after q ∙ changed_else K id change q ne))
      (cases_eq q id))

-- what a look-up leaves
pub looked_up_nodes : (old new : Parts) (whole : IsWhole old) (rows : Rows) (tree : IsTree rows)
    (are : AreNodes rows (known old)) (place : Place) (p n : ℕ)
    → live_row (known old place.parent) ≡ Some p → IsChild rows p place.name n → (result : Result ℕ LookUpFault)
    → ((id : ℕ) → IsKnownAs old place n id → (result ≡ Ok id)
    × ((q : ℕ) → known new q ≡ changed_at id one_look_up_more (known old) q))
    → (((id : ℕ) → IsKnownAs old place n id → ⊥)
    → IfOk result (λ id. (id ≡ old.next) × (new.next ≡ old.next + 1) × (known new id ≡ Some (fresh (At place) n))))
    → (id_at old.index place ≡ None → IfOk result (λ id. (q : ℕ) → q ≢ id → known new q ≡ known old q))
    → OnErr result ((q : ℕ) → known new q ≡ known old q) → AreNodes rows (known new)
looked_up_nodes old new whole rows tree are place p n parent hangs result again made others failed =
    by_index (id_at old.index place) refl
  where
    by_result : (r : Result ℕ LookUpFault) → result ≡ r → id_at old.index place ≡ None → AreNodes rows (known new)
    by_result (Err fault) is free = nodes_same rows (known old) are (known new)
        (λ q. ap place_in (subst (λ r. OnErr r ((q : ℕ) → known new q ≡ known old q)) is failed q))
        (λ q. ap live_row (subst (λ r. OnErr r ((q : ℕ) → known new q ≡ known old q)) is failed q))
    by_result (Ok id) is free =
        let new_id = subst (λ r. IfOk r (λ id. (id ≡ old.next) × (new.next ≡ old.next + 1)
        × (known new id ≡ Some (fresh (At place) n)))) is
        (made (λ k known_as. let wrong : None ≡ Some k = sym free ∙ known_as.0 in absurd (cc))) in
        let rest = subst (λ r. IfOk r (λ id. (q : ℕ) → q ≢ id → known new q ≡ known old q)) is (others free) in
        found_nodes old whole rows tree are place p n parent hangs free (known new) id rest
        (unknown_next old whole id new_id.0) (ap place_in new_id.2) (ap live_row new_id.2)

    by_index : (o : Option ℕ) → id_at old.index place ≡ o → AreNodes rows (known new)
    by_index None free = by_result result refl free
    by_index (Some k) at =
        let row = its_row old whole rows tree are place p n parent hangs k at in
        let known_as : IsKnownAs old place n k =
        (at, sym (number_shown (node_at old.table k)) ∙ live_number (known old k) n row) in
        counted_nodes (known old) k one_look_up_more (λ m. refl) (λ m. refl) rows are (known new) (again k known_as).1
