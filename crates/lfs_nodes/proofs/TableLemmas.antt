-- What nodes are after one of them changed: `changed_there` and `changed_none` for the methods of Table, `rehung_here`
-- and `recounted_here` for `hang`, `unhang` and `lift` of Parts. Each method finds a node or none, and its new table
-- answers as the old one but at that node; what a change keeps of each node is read as before (`changed_keeps`). To
-- hang a node is two changes, the node's place and the count of its directory, which touch different fields
-- (`counts_before`, `same_hang`), so they hold also if both are one node.
use Rattle.std.proofs.Common.{◌≡◌, ◌≢◌, ℕ, Option, None, Some, true, false, refl, sym, ap, ◌∙◌, ⊎_elim}
use Rattle.std.specs.Prelude.{◌==◌, nat_eq}
use Rattle.std.specs.Option.{option_map}
use Rattle.std.proofs.lemmas.Bool.{cond-true, cond-false, eq-eqb, ne_eqb, cases_eq}
use Rattle.std.specs.Prelude.{IsSome}
use Rattle.lfs_nodes.specs.declared.node.Hang.{Hang}
use Rattle.lfs_nodes.specs.declared.node.Hang.TheVariants.{Root, At, Gone}
use Rattle.lfs_nodes.specs.declared.node.Node.{Node}
use Rattle.lfs_nodes.specs.Changes.{hung}
use Rattle.lfs_nodes.specs.Maps.{changed_at}
use Rattle.lfs_nodes.specs.declared.place.Place.{Place}
use Rattle.lfs_nodes.specs.Reads.{hang_in, number_in, children_in}
use Rattle.lfs_nodes.specs.Places.{place_of}

module _ (F G : ℕ → Option Node) (id : ℕ) (change : Node → Node) where
  -- a node that is there is changed
  pub changed_there : (n : Node) → F id ≡ Some n → G id ≡ Some (change n) → ((q : ℕ) → nat_eq id q ≡ false → G q ≡ F q)
      → (q : ℕ) → G q ≡ changed_at id change F q
  changed_there n here new others q = ⊎_elim
      (λ e. ap G e ∙ new ∙ sym (ap (option_map change) (ap F e ∙ here)) ∙ sym (cond-true (q == id) _ _ (eq-eqb q id e)))
      (λ ne. others q (ne_eqb id q (λ e. ne (sym e))) ∙ sym (cond-false (q == id) _ _ (ne_eqb q id ne)))
      (cases_eq q id)

  -- where there is none, nothing is changed
  pub changed_none : F id ≡ None → ((q : ℕ) → G q ≡ F q) → (q : ℕ) → G q ≡ changed_at id change F q
  changed_none none same q = ⊎_elim
      (λ e. same q ∙ ap F e ∙ none ∙ sym (ap (option_map change) (ap F e ∙ none))
      ∙ sym (cond-true (q == id) _ _ (eq-eqb q id e)))
      (λ ne. same q ∙ sym (cond-false (q == id) _ _ (ne_eqb q id ne)))
      (cases_eq q id)

-- ---- what is read of nodes of which one is changed

module _ (F : ℕ → Option Node) (id : ℕ) (change : Node → Node) where
  pub changed_here : changed_at id change F id ≡ option_map change (F id)
  changed_here = cond-true (id == id) _ _ (eq-eqb id id refl)

  pub changed_else : (q : ℕ) → q ≢ id → changed_at id change F q ≡ F q
  changed_else q ne = cond-false (q == id) _ _ (ne_eqb q id ne)

  -- what the change keeps of each node is what it was
  pub changed_keeps : {X : Type 0} (read : Node → X) → ((n : Node) → read (change n) ≡ read n) → (q : ℕ)
      → option_map read (changed_at id change F q) ≡ option_map read (F q)
  changed_keeps read keeps q = ⊎_elim
      (λ e. ap (λ x. option_map read (changed_at id change F x)) e ∙ ap (option_map read) changed_here ∙ kept (F id)
      ∙ ap (λ x. option_map read (F x)) (sym e))
      (λ ne. ap (option_map read) (changed_else q ne))
      (cases_eq q id)
    where
      kept : (o : Option Node) → option_map read (option_map change o) ≡ option_map read o
      kept None = refl
      kept (Some n) = ap Some (keeps n)

hung_to : (h : Hang) (o : Option Node) → IsSome o → hang_in (option_map (hung h) o) ≡ Some h
hung_to h None some = absurd (cc)
hung_to h (Some n) some = refl

count_of : (g : ℕ → ℕ) (o : Option Node)
    → children_in (option_map (λ (n : Node). record n { children = g n.children }) o) ≡ option_map g (children_in o)
count_of g None = refl
count_of g (Some n) = refl

-- ---- one node hangs elsewhere, and one is counted anew

module _ (F G E : ℕ → Option Node) (id p : ℕ) (h : Hang) (g : ℕ → ℕ) (first : (q : ℕ) → G q
    ≡ changed_at id (hung h) F q)
    (second : (q : ℕ) → E q ≡ changed_at p (λ (n : Node). record n { children = g n.children }) G q) where
  abbrev recount : Node → Node
  recount n = record n { children = g n.children }

  same_hang : (q : ℕ) → hang_in (E q) ≡ hang_in (G q)
  same_hang q = ap hang_in (second q) ∙ changed_keeps G p recount (λ n. n.hang) (λ n. refl) q

  pub rehung_here : IsSome (F id) → hang_in (E id) ≡ Some h
  rehung_here some = same_hang id ∙ ap hang_in (first id ∙ changed_here F id (hung h)) ∙ hung_to h (F id) some

  pub rehung_else : (q : ℕ) → q ≢ id → hang_in (E q) ≡ hang_in (F q)
  rehung_else q ne = same_hang q ∙ ap hang_in (first q ∙ changed_else F id (hung h) q ne)

  pub rehung_rows : (q : ℕ) → number_in (E q) ≡ number_in (F q)
  rehung_rows q =
      ap number_in (second q) ∙ changed_keeps G p recount (λ n. n.row) (λ n. refl) q
      ∙ ap number_in (first q) ∙ changed_keeps F id (hung h) (λ n. n.row) (λ n. refl) q

  counts_before : (q : ℕ) → children_in (G q) ≡ children_in (F q)
  counts_before q = ap children_in (first q) ∙ changed_keeps F id (hung h) (λ n. n.children) (λ n. refl) q

  pub recounted_here : children_in (E p) ≡ option_map g (children_in (F p))
  recounted_here = ap children_in (second p ∙ changed_here G p recount) ∙ count_of g (G p)
      ∙ ap (option_map g) (counts_before p)

  pub recounted_else : (q : ℕ) → q ≢ p → children_in (E q) ≡ children_in (F q)
  recounted_else q ne = ap children_in (second q ∙ changed_else G p recount q ne) ∙ counts_before q

-- a node that is read is there
pub read_there : {X : Type 0} (read : Node → X) (o : Option Node) (x : X) → option_map read o ≡ Some x → IsSome o
read_there read None x e = absurd (cc)
read_there read (Some n) x e = refl

pub there_read : {X : Type 0} (read : Node → X) (o : Option Node) → IsSome o → IsSome (option_map read o)
there_read read None some = absurd (cc)
there_read read (Some n) some = refl

-- a node that hangs at a place is known
pub hung_known : (o : Option Node) (place : Place) → place_of (hang_in o) ≡ Some place → IsSome o
hung_known None place e = absurd (cc)
hung_known (Some n) place e = refl

-- a node that hangs nowhere and isn't the root is gone already
pub still_gone : (o : Option Node) → place_of (hang_in o) ≡ None → (hang_in o ≡ Some Root → ⊥)
    → hang_in (option_map (hung Gone) o) ≡ hang_in o
still_gone None e below = refl
still_gone (Some n) e below = gone n.hang n refl e below
  where
    gone : (h : Hang) (n : Node) → n.hang ≡ h → place_of (Some n.hang) ≡ None → (Some n.hang ≡ Some Root → ⊥)
        → Some Gone ≡ Some n.hang
    gone Root n is e below = absurd (below (ap Some is))
    gone (At place) n is e below = let wrong : Some place ≡ None = sym (ap (λ h. place_of (Some h)) is)
        ∙ e in absurd (cc)
    gone Gone n is e below = ap Some (sym is)
