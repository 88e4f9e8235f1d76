-- The tree after a row was made: `IsTree-grown`. The number was unused, so each row of before is there still and has
-- the same ancestors (`climb`), and the new row's are its parent's, one step further (`climb_new`). Its parent is a
-- directory, and no row had its name there, so names stay unique; the number isn't the root's and is one that a file
-- may have.
use Rattle.std.proofs.Common.{◌≡◌, ◌≢◌, ◌≤◌, ℕ, zero, suc, [], None, Some, sym, ap, subst, ◌∙◌, ⊎_elim}
use Rattle.std.proofs.lemmas.Bool.{cases_eq}
use Rattle.std.specs.Prelude.{IsSomeAnd}
use Rattle.std.specs.FinMap as map
use Rattle.lfs_types.specs.Tree.{Row, root}
use Rattle.lfs_types.specs.declared.attrs.Kind.TheVariants.{Directory}
use Rattle.lfs_types.specs.declared.limits.TheConstants.{FIRST_INODE}
use Rattle.lfs_model.specs.World.{Rows, child, parent_of, ancestor, IsTree}
use Rattle.lfs_model.proofs.Children.{unique-new}
use Rattle.lfs_types.proofs.Maps.{get-insert_same, get-insert_other}
use Rattle.lfs_types.proofs.Somewhere.{some_and, is_some_and}

-- ---- the tree

module _ (rows : Rows) (tree : IsTree rows) (n : ℕ) (row dir : Row)
    (absent : map.get rows n ≡ None) (below : n ≡ root → ⊥)
    (free : child rows row.parent row.name ≡ None)
    (there : map.get rows row.parent ≡ Some dir) (directory : dir.file.kind ≡ Directory)
    (empty : row.file.bytes ≡ []) where
  abbrev grown : Rows
  grown = map.insert rows n row

  other_row : (m : ℕ) (r : Row) → map.get rows m ≡ Some r → m ≢ n
  other_row m r e same = let none : map.get rows m
      ≡ None = subst (λ k. map.get rows k ≡ None) (sym same) absent in absurd (cc)

  climb : (k m : ℕ) (r : Row) → map.get rows m ≡ Some r → ancestor rows k m ≡ root → ancestor grown k m ≡ root
  unfolding ancestor
  climb zero m r e h = h
  climb (suc k) m r e h =
      let here : map.get grown m ≡ Some r = get-insert_other rows n row m (other_row m r e) ∙ e in
      let up = some_and (map.get rows r.parent) _ (tree.parents m r e) in
      let from : ancestor rows k r.parent ≡ root = subst (λ o. ancestor rows k (parent_of o) ≡ root) e h in
      subst (λ o. ancestor grown k (parent_of o) ≡ root) (sym here) (climb k r.parent up.value up.is from)

  is_row : (m : ℕ) (r : Row) → map.get grown m ≡ Some r → m ≡ n → r ≡ row
  is_row m r e same = let new = get-insert_same rows n row in cc (ap (map.get grown) same)

  was_row : (m : ℕ) (r : Row) → map.get grown m ≡ Some r → m ≢ n → map.get rows m ≡ Some r
  was_row m r e other = sym (get-insert_other rows n row m other) ∙ e

  climb_new : (m : ℕ) (r : Row) → map.get grown m ≡ Some r → m ≡ n → (k : ℕ) → ancestor rows k row.parent ≡ root
      → ancestor grown (suc k) m ≡ root
  unfolding ancestor
  climb_new m r e same k way =
      let is = is_row m r e same in
      subst (λ o. ancestor grown k (parent_of o) ≡ root) (sym e)
      (subst (λ (x : Row). ancestor grown k x.parent ≡ root) (sym is) (climb k row.parent dir there way))

  -- the rows with the new one are a tree
  pub IsTree-grown : FIRST_INODE ≤ n → IsTree grown
  IsTree-grown first = record {
    rooted = subst (λ o. IsSomeAnd o (λ r. (r.parent ≡ root) × (r.name ≡ []) × (r.file.kind ≡ Directory)))
        (sym (get-insert_other rows n row root (λ e. below (sym e)))) tree.rooted;
    unique = unique-new rows n row absent below free tree.unique;
    parents = λ m r e. ⊎_elim
        (λ same. let is = is_row m r e same in
        subst (λ (x : Row). IsSomeAnd (map.get grown x.parent) (λ p. p.file.kind ≡ Directory)) (sym is)
        (is_some_and _ (get-insert_other rows n row row.parent (other_row row.parent dir there) ∙ there) directory))
        (λ other. let up = some_and (map.get rows r.parent) _ (tree.parents m r (was_row m r e other)) in
        is_some_and _ (get-insert_other rows n row r.parent (other_row r.parent up.value up.is) ∙ up.is) up.holds)
        (cases_eq m n);
    reached = λ m r e. ⊎_elim
        (λ same. let way = tree.reached row.parent dir there in
        (suc way.0, climb_new m r e same way.0 way.1))
        (λ other. let was = was_row m r e other in let way = tree.reached m r was in (way.0, climb way.0 m r was way.1))
        (cases_eq m n);
    empty = λ m r e k. ⊎_elim
        (λ same. ap (λ (x : Row). x.file.bytes) (is_row m r e same) ∙ empty)
        (λ other. tree.empty m r (was_row m r e other) k)
        (cases_eq m n);
    numbers = λ m r e apart. ⊎_elim
        (λ same. subst (λ k. FIRST_INODE ≤ k) (sym same) first)
        (λ other. tree.numbers m r (was_row m r e other) apart)
        (cases_eq m n);
  }
