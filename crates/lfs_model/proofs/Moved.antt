-- The rows with one at another place are a tree if the new parent is a directory that isn't below it: `IsTree-moved`,
-- for EffectTree. Ways up that don't pass the row stay (`stays`), its own goes through the new parent (`climb_moved`),
-- and any other goes up to the row as before and then on from there (`climb`). Since the row is no ancestor of the new
-- parent, that way ends at the root; else the row and all beneath it would be a ring.
use Rattle.std.proofs.Common.{◌≡◌, ◌≢◌, ◌≤◌, ℕ, zero, suc, List, [], None, Some, refl, sym, ap, subst, ◌∙◌, ⊎_elim}
use Rattle.std.proofs.lemmas.Bool.{cases_eq}
use Rattle.std.specs.Prelude.{IsSomeAnd}
use Rattle.std.specs.FinMap as map
use Rattle.lfs_types.specs.Tree.{Row, root}
use Rattle.lfs_types.specs.declared.attrs.Kind.TheVariants.{Directory}
use Rattle.lfs_types.specs.declared.limits.TheConstants.{FIRST_INODE}
use Rattle.lfs_model.specs.World.{Rows, child, parent_of, ancestor, IsTree}
use Rattle.lfs_types.proofs.Maps.{get-insert_same, get-insert_other, each_inserted}
use Rattle.lfs_model.proofs.MovedRows.{unique-moved}
use Rattle.lfs_types.proofs.Somewhere.{some_and, is_some_and}

-- the new parent is a directory, and the row is none of its ancestors
module _ (rows : Rows) (tree : IsTree rows) (n : ℕ) (old : Row) (was : map.get rows n ≡ Some old) (below : n ≡ root → ⊥)
    (parent : ℕ) (name : List ℕ) (dir : Row) (there : map.get rows parent ≡ Some dir) (directory : dir.file.kind
    ≡ Directory)
    (free : child rows parent name ≡ None)
    (apart : (k : ℕ) → ancestor rows k parent ≢ n) where
  abbrev row : Row
  row = record old { parent = parent; name = name }

  abbrev moved : Rows
  moved = map.insert rows n row

  is_row : (m : ℕ) → m ≡ n → map.get moved m ≡ Some row
  is_row m same = ap (map.get moved) same ∙ get-insert_same rows n row

  -- where the row is on no way up, the way stays
  stays : (k m : ℕ) → ((j : ℕ) → ancestor rows j m ≢ n) → ancestor moved k m ≡ ancestor rows k m
  unfolding ancestor
  stays zero m away = refl
  stays (suc k) m away =
      let here : m ≢ n = away zero in
      ap (λ o. ancestor moved k (parent_of o)) (get-insert_other rows n row m here)
      ∙ stays k (parent_of (map.get rows m)) (λ j. away (suc j))

  -- the row's way up goes through its new parent
  climb_moved : (m : ℕ) → m ≡ n → (k : ℕ) × (ancestor moved k m ≡ root)
  unfolding ancestor
  climb_moved m same =
      let way = tree.reached parent dir there in
      (suc way.0, ap (λ o. ancestor moved way.0 (parent_of o)) (is_row m same) ∙ stays way.0 parent apart ∙ way.1)

  climb : (k m : ℕ) → ancestor rows k m ≡ root → (j : ℕ) × (ancestor moved j m ≡ root)
  unfolding ancestor
  climb zero m h = (zero, h)
  climb (suc k) m h = ⊎_elim
      (λ same. climb_moved m same)
      (λ other.
      let up = climb k (parent_of (map.get rows m)) h in
      (suc up.0, ap (λ o. ancestor moved up.0 (parent_of o)) (get-insert_other rows n row m other) ∙ up.1))
      (cases_eq m n)

  -- a directory is a directory still
  directory_after : (m : ℕ) → IsSomeAnd (map.get rows m) (λ p. p.file.kind ≡ Directory)
      → IsSomeAnd (map.get moved m) (λ p. p.file.kind ≡ Directory)
  directory_after m h =
      let one = some_and (map.get rows m) _ h in
      ⊎_elim
      (λ same.
      let is : one.value ≡ old = cc (one.is, was, ap (map.get rows) same) in
      is_some_and _ (is_row m same) (ap (λ (x : Row). x.file.kind) (sym is) ∙ one.holds))
      (λ far. is_some_and _ (get-insert_other rows n row m far ∙ one.is) one.holds)
      (cases_eq m n)

  -- the rows with the moved one are a tree
  pub IsTree-moved : IsTree moved
  IsTree-moved = record {
    rooted = subst (λ o. IsSomeAnd o (λ r. (r.parent ≡ root) × (r.name ≡ []) × (r.file.kind ≡ Directory)))
        (sym (get-insert_other rows n row root (λ e. below (sym e)))) tree.rooted;
    unique = unique-moved rows n row below tree.unique free;
    parents = each_inserted rows n row (λ m x. IsSomeAnd (map.get moved x.parent) (λ p. p.file.kind ≡ Directory))
        (directory_after parent (is_some_and _ there directory))
        (λ m x far e. directory_after x.parent (tree.parents m x e));
    reached = each_inserted rows n row (λ m x. (k : ℕ) × (ancestor moved k m ≡ root))
        (climb_moved n refl)
        (λ m x far e. let way = tree.reached m x e in climb way.0 m way.1);
    empty = each_inserted rows n row (λ m x. x.file.kind ≡ Directory → x.file.bytes ≡ []) (tree.empty n old was)
        (λ m x far e. tree.empty m x e);
    numbers = each_inserted rows n row (λ m x. m ≢ root → FIRST_INODE ≤ m) (tree.numbers n old was)
        (λ m x far e. tree.numbers m x e);
  }
