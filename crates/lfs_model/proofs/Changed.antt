-- The tree after the file of a row was changed, and not its place or kind: `IsTree-changed`. The row has its parent,
-- its name and its kind still, so each row has the same ancestors (`ancestors_same`), each parent is a directory still,
-- and the root is the root, be it the changed row or not. What is asked of files is asked of the new one: a directory's
-- has no bytes.
use Rattle.std.proofs.Common.{◌≡◌, ◌≢◌, ◌≤◌, ℕ, zero, suc, [], Some, refl, sym, ap, subst, ◌∙◌, ⊎_elim}
use Rattle.std.proofs.lemmas.Bool.{cases_eq}
use Rattle.std.specs.Prelude.{IsSomeAnd}
use Rattle.std.specs.FinMap as map
use Rattle.lfs_types.specs.Tree.{File, Row, root}
use Rattle.lfs_types.specs.declared.attrs.Kind.TheVariants.{Directory}
use Rattle.lfs_types.specs.declared.limits.TheConstants.{FIRST_INODE}
use Rattle.lfs_model.specs.World.{Rows, parent_of, ancestor, IsTree}
use Rattle.lfs_model.proofs.Children.{unique-stays}
use Rattle.lfs_types.proofs.Maps.{get-insert_same, get-insert_other, each_inserted}
use Rattle.lfs_types.proofs.Somewhere.{some_and, is_some_and}

module _ (rows : Rows) (tree : IsTree rows) (n : ℕ) (r : Row) (there : map.get rows n ≡ Some r)
    (file : File) (kind : file.kind ≡ r.file.kind) (empty : file.kind ≡ Directory → file.bytes ≡ []) where
  abbrev changed : Rows
  changed = map.insert rows n (record r { file = file })

  -- a directory is a directory still
  directory_after : (m : ℕ) → IsSomeAnd (map.get rows m) (λ p. p.file.kind ≡ Directory)
      → IsSomeAnd (map.get changed m) (λ p. p.file.kind ≡ Directory)
  directory_after m h =
      let was = some_and (map.get rows m) _ h in
      ⊎_elim
      (λ same.
      let is : was.value ≡ r = cc (was.is, there, ap (map.get rows) same) in
      is_some_and _ (ap (map.get changed) same ∙ get-insert_same rows n (record r { file = file })) (kind
      ∙ ap (λ (x : Row). x.file.kind) (sym is) ∙ was.holds))
      (λ apart. is_some_and _ (get-insert_other rows n (record r { file = file }) m apart ∙ was.is) was.holds)
      (cases_eq m n)

  parents_same : (m : ℕ) → parent_of (map.get changed m) ≡ parent_of (map.get rows m)
  parents_same m = ⊎_elim
      (λ same. subst (λ k. parent_of (map.get changed k) ≡ parent_of (map.get rows k)) (sym same)
      (ap parent_of (get-insert_same rows n (record r { file = file })) ∙ sym (ap parent_of there)))
      (λ apart. ap parent_of (get-insert_other rows n (record r { file = file }) m apart))
      (cases_eq m n)

  ancestors_same : (k m : ℕ) → ancestor changed k m ≡ ancestor rows k m
  unfolding ancestor
  ancestors_same zero m = refl
  ancestors_same (suc k) m = ap (ancestor changed k) (parents_same m) ∙ ancestors_same k (parent_of (map.get rows m))

  -- the rows are a tree still
  pub IsTree-changed : IsTree changed
  IsTree-changed = record {
    rooted =
        let was = some_and (map.get rows root) _ tree.rooted in
        ⊎_elim
        (λ same.
        let is : was.value ≡ r = cc (was.is, there, ap (map.get rows) same) in
        is_some_and (λ (x : Row). (x.parent ≡ root) × (x.name ≡ []) × (x.file.kind ≡ Directory))
        (ap (map.get changed) same ∙ get-insert_same rows n (record r { file = file })) (
          ap (λ (x : Row). x.parent) (sym is) ∙ was.holds.0,
          ap (λ (x : Row). x.name) (sym is) ∙ was.holds.1,
          kind
              ∙ ap (λ (x : Row). x.file.kind) (sym is) ∙ was.holds.2,
        ))
        (λ apart. is_some_and _ (get-insert_other rows n (record r { file = file }) root apart ∙ was.is) was.holds)
        (cases_eq root n);
    unique = unique-stays rows n r (record r { file = file }) there refl refl tree.unique;
    parents = each_inserted rows n (record r { file = file })
        (λ m x. IsSomeAnd (map.get changed x.parent) (λ p. p.file.kind ≡ Directory))
        (directory_after r.parent (tree.parents n r there))
        (λ m x apart e. directory_after x.parent (tree.parents m x e));
    reached = each_inserted rows n (record r { file = file }) (λ m x. (k : ℕ) × (ancestor changed k m ≡ root))
        (let way = tree.reached n r there in (way.0, ancestors_same way.0 n ∙ way.1))
        (λ m x apart e. let way = tree.reached m x e in (way.0, ancestors_same way.0 m ∙ way.1));
    empty = each_inserted rows n (record r { file = file }) (λ m x. x.file.kind ≡ Directory → x.file.bytes ≡ []) empty
        (λ m x apart e. tree.empty m x e);
    numbers = each_inserted rows n (record r { file = file }) (λ m x. m ≢ root → FIRST_INODE ≤ m)
        (tree.numbers n r there) (λ m x far e. tree.numbers m x e);
  }
