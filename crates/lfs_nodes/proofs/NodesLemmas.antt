-- `AreNodes` after each kind of change, of rows and nodes as functions: `nodes_same`, `nodes_fewer`, `nodes_new`,
-- `nodes_removed`, `nodes_moved`, for ChangeLemmas, MovedLemmas and `Parts::close` and `forget`. A node's row hangs by
-- the name and in the row of the node above (`stands_there`), so one row more, less or elsewhere changes what is said
-- of its node alone. `nodes_removed` needs that nothing hangs beneath the row, and `nodes_fewer` that the node above
-- each place is known still.
use Rattle.std.proofs.Common.{◌≡◌, ◌≢◌, ◌⊎◌, ℕ, List, Option, None, Some, true, false, refl, sym, ap, subst, ◌∙◌, inl}
use Rattle.std.proofs.Common.{inr, ⊎_elim}
use Rattle.std.specs.Prelude.{IsSome, IsSomeAnd}
use Rattle.std.specs.FinMap as map
use Rattle.std.proofs.lemmas.Bool.{cases_eq}
use Rattle.lfs_types.specs.Tree.{Row, root}
use Rattle.lfs_types.proofs.Maps.{get-insert_same, get-insert_other, get-remove_other}
use Rattle.lfs_types.proofs.Somewhere.{some_and, is_some_and, there_of}
use Rattle.lfs_model.specs.World.{Rows, IsChild}
use Rattle.lfs_model.proofs.Shrunk.{hangs_still}
use Rattle.lfs_nodes.specs.declared.place.Place.{Place}
use Rattle.lfs_nodes.specs.declared.node.Hang.{Hang}
use Rattle.lfs_nodes.specs.declared.node.Hang.TheVariants.{Root, At, Gone}
use Rattle.lfs_nodes.specs.declared.node.Node.{Node}
use Rattle.lfs_nodes.specs.Reads.{hang_in}
use Rattle.lfs_nodes.specs.Places.{place_of}
use Rattle.lfs_nodes.specs.Nodes.{AreNodes, live_row}
use Rattle.lfs_nodes.proofs.PlaceLemmas.{place_is}

-- the place of a node
abbrev pub place_in : Option Node → Option Place
place_in o = place_of (hang_in o)

-- one row hangs under one parent and one name
pub one_place : (rows : Rows) (p q n : ℕ) (a b : List ℕ) → IsChild rows p a n → IsChild rows q b n → (p ≡ q) × (a ≡ b)
one_place rows p q n a b c d =
    let one : c.row ≡ d.row = cc (c.there, d.there) in
    (sym c.hangs ∙ ap (λ (r : Row). r.parent) one ∙ d.hangs, sym c.named ∙ ap (λ (r : Row). r.name) one ∙ d.named)

-- a node of a row is the root, or hangs at a place
stands : (o : Option Node) (n : ℕ) → live_row o ≡ Some n → (hang_in o ≡ Some Root)
    ⊎ ((place : Place) × (place_in o ≡ Some place))
stands None n e = absurd (cc)
stands (Some m) n e = standing m.hang m n e refl
  where
    standing : (h : Hang) (m : Node) (n : ℕ) → live_row (Some m) ≡ Some n → m.hang ≡ h → (hang_in (Some m) ≡ Some Root)
        ⊎ ((place : Place) × (place_in (Some m) ≡ Some place))
    standing Root m n e is = inl (ap Some is)
    standing (At place) m n e is = inr (place, ap (λ h. place_of (Some h)) is)
    standing Gone m n e is = let none : live_row (Some (record m { hang = Gone }))
        ≡ Some n = subst (λ h. live_row (Some (record m { hang = h })) ≡ Some n) is e in absurd (cc)

-- what hangs at a place has a row
pub hung_row : (o : Option Node) (place : Place) → place_in o ≡ Some place → IsSome (live_row o)
hung_row None place e = absurd (cc)
hung_row (Some m) place e = rowed m.hang m e refl
  where
    rowed : (h : Hang) (m : Node) → place_in (Some m) ≡ Some place → m.hang ≡ h → IsSome (live_row (Some m))
    rowed Root m e is = let none : place_in (Some m) ≡ None = ap (λ h. place_of (Some h)) is in absurd (cc)
    rowed (At p) m e is = subst (λ h. IsSome (live_row (Some (record m { hang = h })))) (sym is) refl
    rowed Gone m e is = let none : place_in (Some m) ≡ None = ap (λ h. place_of (Some h)) is in absurd (cc)

module _ (rows : Rows) (K : ℕ → Option Node) (are : AreNodes rows K) where
  -- the node of a row that hangs in a node's row hangs there
  pub stands_there : ((q : ℕ) → hang_in (K q) ≡ Some Root → live_row (K q) ≡ Some root) → (place : Place) (p n : ℕ)
      → live_row (K place.parent) ≡ Some p
      → IsChild rows p place.name n → (q : ℕ) → live_row (K q) ≡ Some n → place_in (K q) ≡ Some place
  stands_there rooted place p n parent child q e = ⊎_elim
      (λ r. let wrong : Some root ≡ Some n = sym (rooted q r)
      ∙ e in absurd (child.below (let f : root ≡ n = cc in sym f)))
      (λ at.
      let up = some_and (live_row (K at.0.parent)) _ (are.hung q at.0 n at.1 e) in
      let one = one_place rows up.value p n at.0.name place.name up.holds child in
      let same : at.0.parent ≡ place.parent = are.apart at.0.parent place.parent p (up.is ∙ ap Some one.0) parent in
      at.1 ∙ ap Some (place_is at.0 place same one.1))
      (stands (K q) n e)

  module _ (L : ℕ → Option Node) where
    -- nothing of this changed
    pub nodes_same : ((q : ℕ) → place_in (L q) ≡ place_in (K q)) → ((q : ℕ) → live_row (L q) ≡ live_row (K q))
        → AreNodes rows L
    nodes_same places numbers = record {
      hung = λ q place n e f. subst (λ o. IsSomeAnd o (λ p. IsChild rows p place.name n)) (sym (numbers place.parent))
          (are.hung q place n (sym (places q) ∙ e) (sym (numbers q) ∙ f));
      apart = λ i j n e f. are.apart i j n (sym (numbers i) ∙ e) (sym (numbers j) ∙ f);
    }

    -- some nodes are no longer known
    pub nodes_fewer : ((q : ℕ) (n : Node) → L q ≡ Some n → K q ≡ Some n)
        → ((q : ℕ) (place : Place) → place_in (L q) ≡ Some place → IsSome (L place.parent)) → AreNodes rows L
    nodes_fewer was parents = record {
      hung = λ q place n e f.
          let same = sym (still q (known_from (L q) place e)) in
          let up = sym (still place.parent (parents q place e)) in
          subst (λ o. IsSomeAnd o (λ p. IsChild rows p place.name n)) (ap live_row up)
          (are.hung q place n (ap place_in same ∙ e) (ap live_row same ∙ f));
      apart = λ i j n e f. are.apart i j n (ap live_row (sym (still i (row_known (L i) n e))) ∙ e)
          (ap live_row (sym (still j (row_known (L j) n f))) ∙ f);
    }
      where
        known_from : (o : Option Node) (place : Place) → place_in o ≡ Some place → IsSome o
        known_from None place e = absurd (cc)
        known_from (Some n) place e = refl

        row_known : (o : Option Node) (n : ℕ) → live_row o ≡ Some n → IsSome o
        row_known None n e = absurd (cc)
        row_known (Some m) n e = refl

        still : (q : ℕ) → IsSome (L q) → L q ≡ K q
        still q some = let t = there_of (L q) some in t.is ∙ sym (was q t.value t.is)

    -- a new node, of a row that had none
    pub nodes_new : (id : ℕ) (place : Place) (p n : ℕ) → ((q : ℕ) → q ≢ id → L q ≡ K q) → live_row (K id) ≡ None
        → place_in (L id) ≡ Some place → live_row (L id) ≡ Some n
        → live_row (K place.parent) ≡ Some p → IsChild rows p place.name n → ((q : ℕ) → live_row (K q) ≢ Some n)
        → AreNodes rows L
    nodes_new id place p n others none at row parent child fresh = record {
      hung = λ q place' n' e f. ⊎_elim
          (λ same.
          let here : Some place' ≡ Some place = sym e ∙ ap (λ x. place_in (L x)) same ∙ at in
          let is : place' ≡ place = cc in
          let number : Some n' ≡ Some n = sym f ∙ ap (λ x. live_row (L x)) same ∙ row in
          let nn : n' ≡ n = cc in
          is_some_and _ (ap (λ (x : Place). live_row (L x.parent)) is ∙ up place.parent p parent)
          (subst (λ (x : Place). IsChild rows p x.name n') (sym is)
          (subst (IsChild rows p place.name) (sym nn) child)))
          (λ ne.
          let before = some_and _ _ (are.hung q place' n' (sym (ap place_in (others q ne)) ∙ e)
          (sym (ap live_row (others q ne)) ∙ f)) in
          is_some_and _ (up place'.parent before.value before.is) before.holds)
          (cases_eq q id);
      apart = λ i j m e f. ⊎_elim
          (λ here. ⊎_elim
          (λ there. here ∙ sym there)
          (λ ne. absurd (fresh j (sym (ap live_row (others j ne)) ∙ f ∙ sym e ∙ ap (λ x. live_row (L x)) here ∙ row)))
          (cases_eq j id))
          (λ ne. ⊎_elim
          (λ there. absurd (fresh i (sym (ap live_row (others i ne)) ∙ e ∙ sym f ∙ ap (λ x. live_row (L x)) there
          ∙ row)))
          (λ nf. are.apart i j m (sym (ap live_row (others i ne)) ∙ e) (sym (ap live_row (others j nf)) ∙ f))
          (cases_eq j id))
          (cases_eq i id);
    }
      where
        up : (q m : ℕ) → live_row (K q) ≡ Some m → live_row (L q) ≡ Some m
        up q m e = ap live_row (others q (λ same. let wrong : None ≡ Some m = sym none
            ∙ ap (λ x. live_row (K x)) (sym same) ∙ e in absurd (cc))) ∙ e

    -- a row in which nothing hangs is removed, and its node is gone
    pub nodes_removed : (r : ℕ) → ((name : List ℕ) (m : ℕ) → IsChild rows r name m → ⊥)
        → ((q : ℕ) → live_row (K q) ≢ Some r → (place_in (L q) ≡ place_in (K q)) × (live_row (L q) ≡ live_row (K q)))
        → ((q : ℕ) → live_row (K q) ≡ Some r → live_row (L q) ≡ None) → AreNodes (map.remove rows r) L
    nodes_removed r childless others gone = record {
      hung = λ q place n e f.
          let apart = left q n f in
          let same = others q apart in
          let before = some_and _ _ (are.hung q place n (sym same.0 ∙ e) (sym same.1 ∙ f)) in
          is_some_and _ ((others place.parent (λ up. let two : Some before.value ≡ Some r = sym before.is
          ∙ up in let is : before.value ≡ r = cc in
          childless place.name n (subst (λ x. IsChild rows x place.name n) is before.holds))).1 ∙ before.is)
          (hangs_still rows r before.value place.name n (λ is. apart (sym same.1 ∙ f ∙ ap Some is)) before.holds);
      apart = λ i j n e f. are.apart i j n (sym (others i (left i n e)).1 ∙ e) (sym (others j (left j n f)).1 ∙ f);
    }
      where
        left : (q n : ℕ) → live_row (L q) ≡ Some n → live_row (K q) ≢ Some r
        left q n f is = let wrong : None ≡ Some n = sym (gone q is) ∙ f in absurd (cc)

    -- a row gets another place, and its node with it
    pub nodes_moved : (n p : ℕ) (row : Row) (place : Place) → (n ≡ root → ⊥) → row.parent ≡ p → row.name ≡ place.name
        → live_row (K place.parent) ≡ Some p
        → ((q : ℕ) → live_row (L q) ≡ live_row (K q))
        → ((q : ℕ) → live_row (K q) ≢ Some n → place_in (L q) ≡ place_in (K q))
        → ((q : ℕ) → live_row (K q) ≡ Some n → place_in (L q) ≡ Some place) → AreNodes (map.insert rows n row) L
    nodes_moved n p row place below hangs named parent numbers others moved = record {
      hung = λ q place' m e f. ⊎_elim
          (λ same.
          let it : live_row (K q) ≡ Some n = sym (numbers q) ∙ f ∙ ap Some same in
          let here : Some place' ≡ Some place = sym e ∙ moved q it in
          let is : place' ≡ place = cc in
          is_some_and _ (numbers place'.parent ∙ ap (λ (x : Place). live_row (K x.parent)) is ∙ parent)
          (record {
            row = row;
            there = ap (map.get (map.insert rows n row)) same ∙ get-insert_same rows n row;
            below = λ g. below (sym same ∙ g);
            hangs = hangs;
            named = named ∙ ap (λ (x : Place). x.name) (sym is);
          }))
          (λ ne.
          let apart : live_row (K q) ≢ Some n = λ is. ne (let two : Some m ≡ Some n = sym f ∙ numbers q ∙ is in (cc)) in
          let before = some_and _ _ (are.hung q place' m (sym (others q apart) ∙ e) (sym (numbers q) ∙ f)) in
          let c = before.holds in
          is_some_and _ (numbers place'.parent ∙ before.is)
          (record {
            row = c.row;
            there = get-insert_other rows n row m ne ∙ c.there;
            below = c.below;
            hangs = c.hangs;
            named = c.named;
          }))
          (cases_eq m n);
      apart = λ i j m e f. are.apart i j m (sym (numbers i) ∙ e) (sym (numbers j) ∙ f);
    }
