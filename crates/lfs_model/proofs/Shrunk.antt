-- The rows without one in which nothing hangs are a tree, and all else hangs where it hung: `IsTree-shrunk` for
-- EffectTree and RowLemmas of `lfs_calls`, `child-removed` and `child-left_elsewhere` for the listings of stores. No
-- row has the removed one as its parent, so each one's way up to the root passes it by (`climb`, by induction on the
-- steps), and what a look-up finds elsewhere is as before, as a row hangs in one place only. The row must be childless
-- and not the root; where it isn't, rows would hang in nothing, which is why Rmdir asks for emptiness.
use Rattle.std.proofs.Common.{◌≡◌, ◌≢◌, ℕ, zero, suc, List, [], Option, None, Some, refl, sym, ap, subst, ◌∙◌, ⊎_elim}
use Rattle.std.proofs.lemmas.Bool.{cases_eq}
use Rattle.std.specs.Prelude.{IsSomeAnd}
use Rattle.std.specs.FinMap as map
use Rattle.lfs_types.specs.Tree.{Row, root}
use Rattle.lfs_types.specs.declared.attrs.Kind.TheVariants.{Directory}
use Rattle.lfs_model.specs.World.{Rows, child, parent_of, ancestor, IsChild, IsTree}
use Rattle.lfs_model.proofs.Children.{IsUnique, IsChildAnswer, child-is, child-none, child-answer}
use Rattle.lfs_types.proofs.Maps.{get-remove_same, get-remove_other}
use Rattle.lfs_types.proofs.Somewhere.{some_and, is_some_and}

-- ---- rows and look-ups

module _ (rows : Rows) (n : ℕ) where
  -- a row that is left isn't the removed one, and is what it was
  pub row_left : (m : ℕ) (r : Row) → map.get (map.remove rows n) m ≡ Some r → (m ≢ n) × (map.get rows m ≡ Some r)
  row_left m r e =
      let other : m ≢ n = λ same. let none : map.get (map.remove rows n) m
      ≡ None = ap (map.get (map.remove rows n)) same ∙ get-remove_same rows n in absurd (cc) in
      (other, sym (get-remove_other rows n m other) ∙ e)

  -- a row that is left hangs where it hung
  pub hung : (parent : ℕ) (name : List ℕ) (m : ℕ) → IsChild (map.remove rows n) parent name m
      → IsChild rows parent name m
  hung parent name m c = record {
    row = c.row;
    there = (row_left m c.row c.there).1;
    below = c.below;
    hangs = c.hangs;
    named = c.named;
  }

  -- another row hangs where it hung
  pub hangs_still : (parent : ℕ) (name : List ℕ) (m : ℕ) → m ≢ n → IsChild rows parent name m
      → IsChild (map.remove rows n) parent name m
  hangs_still parent name m other c = record {
    row = c.row;
    there = get-remove_other rows n m other ∙ c.there;
    below = c.below;
    hangs = c.hangs;
    named = c.named;
  }

  -- no two rows hang under one parent and name
  pub unique-shrunk : IsUnique rows → IsUnique (map.remove rows n)
  unique-shrunk unique parent name m k c d = unique parent name m k (hung parent name m c) (hung parent name k d)

  module _ (unique : IsUnique rows) where
    -- where the removed row hung, nothing hangs
    pub child-removed : (parent : ℕ) (name : List ℕ) → IsChild rows parent name n
        → child (map.remove rows n) parent name ≡ None
    child-removed parent name c = child-answer _ (unique-shrunk unique) parent name None
        (λ m d. (row_left m d.row d.there).0 (unique parent name m n (hung parent name m d) c))

    same_answer : (parent : ℕ) (name : List ℕ) → (IsChild rows parent name n → ⊥) → (found : Option ℕ)
        → child rows parent name ≡ found → IsChildAnswer (map.remove rows n) parent name found
    same_answer parent name apart None e = λ m d. child-none rows parent name e m (hung parent name m d)
    same_answer parent name apart (Some m) e =
        let c = child-is rows parent name m e in
        hangs_still parent name m (λ same. apart (subst (IsChild rows parent name) same c)) c

    -- elsewhere what hung hangs still
    pub child-left : (parent : ℕ) (name : List ℕ) → (IsChild rows parent name n → ⊥)
        → child (map.remove rows n) parent name ≡ child rows parent name
    child-left parent name apart = child-answer _ (unique-shrunk unique) parent name (child rows parent name)
        (same_answer parent name apart _ refl)

    -- the removed row hung in one place only
    pub child-left_elsewhere : (parent : ℕ) (name : List ℕ) → IsChild rows parent name n → (p : ℕ) (q : List ℕ)
        → (p ≡ parent → q ≡ name → ⊥) → child (map.remove rows n) p q ≡ child rows p q
    child-left_elsewhere parent name c p q apart = child-left p q (λ d.
        let one : d.row ≡ c.row = cc (d.there, c.there) in
        apart (sym d.hangs ∙ ap (λ (r : Row). r.parent) one ∙ c.hangs) (sym d.named ∙ ap (λ (r : Row). r.name) one
        ∙ c.named))

-- ---- the tree

module _ (rows : Rows) (tree : IsTree rows) (n : ℕ) (below : n ≡ root → ⊥) (childless : (name : List ℕ) (m : ℕ)
    → IsChild rows n name m → ⊥) where
  abbrev shrunk : Rows
  shrunk = map.remove rows n

  -- the parent of a row isn't the removed row
  parent_apart : (m : ℕ) (r : Row) → map.get rows m ≡ Some r → r.parent ≢ n
  parent_apart m r e = λ same. ⊎_elim
      (λ (at_root : m ≡ root).
      let top = some_and (map.get rows root) _ tree.rooted in
      let one : r ≡ top.value = cc (top.is, ap (map.get rows) at_root) in
      below (sym same ∙ ap (λ (x : Row). x.parent) one ∙ top.holds.0))
      (λ other. childless r.name m (record { row = r; there = e; below = other; hangs = same; named = refl }))
      (cases_eq m root)

  climb : (k m : ℕ) (r : Row) → m ≢ n → map.get rows m ≡ Some r → ancestor rows k m ≡ root → ancestor shrunk k m ≡ root
  unfolding ancestor
  climb zero m r other e h = h
  climb (suc k) m r other e h =
      let here : map.get shrunk m ≡ Some r = get-remove_other rows n m other ∙ e in
      let up = some_and (map.get rows r.parent) _ (tree.parents m r e) in
      let from : ancestor rows k r.parent ≡ root = subst (λ o. ancestor rows k (parent_of o) ≡ root) e h in
      subst (λ o. ancestor shrunk k (parent_of o) ≡ root) (sym here)
      (climb k r.parent up.value (parent_apart m r e) up.is from)

  -- the way up of a row that is left is what it was
  pub ancestors_left : (k m : ℕ) (r : Row) → m ≢ n → map.get rows m ≡ Some r → ancestor shrunk k m ≡ ancestor rows k m
  unfolding ancestor
  ancestors_left zero m r other e = refl
  ancestors_left (suc k) m r other e =
      let up = some_and (map.get rows r.parent) _ (tree.parents m r e) in
      ap (λ o. ancestor shrunk k (parent_of o)) (get-remove_other rows n m other ∙ e)
      ∙ ancestors_left k r.parent up.value (parent_apart m r e) up.is
      ∙ sym (ap (λ o. ancestor rows k (parent_of o)) e)

  -- the rows without it are a tree
  pub IsTree-shrunk : IsTree shrunk
  IsTree-shrunk = record {
    rooted = subst (λ o. IsSomeAnd o (λ r. (r.parent ≡ root) × (r.name ≡ []) × (r.file.kind ≡ Directory)))
        (sym (get-remove_other rows n root (λ e. below (sym e)))) tree.rooted;
    unique = unique-shrunk rows n tree.unique;
    parents = λ m r e.
        let was = (row_left rows n m r e).1 in
        let up = some_and (map.get rows r.parent) _ (tree.parents m r was) in
        is_some_and _ (get-remove_other rows n r.parent (parent_apart m r was) ∙ up.is) up.holds;
    reached = λ m r e.
        let was = row_left rows n m r e in
        let way = tree.reached m r was.1 in
        (way.0, climb way.0 m r was.0 was.1 way.1);
    empty = λ m r e. tree.empty m r (row_left rows n m r e).1;
    numbers = λ m r e. tree.numbers m r (row_left rows n m r e).1;
  }
