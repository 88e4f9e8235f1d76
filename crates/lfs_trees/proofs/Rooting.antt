-- A walk that reached the root alone: `reaches_root`, for Stepping. One row, the root's, is a tree, if its file is a
-- directory: it has no parent but itself, no name and no bytes that users see, and nothing hangs anywhere
-- (`childless`). Of such a walk nothing was read yet, so it claims no directory's listing, and each name is still to
-- come.
use Rattle.std.proofs.Common.{◌≡◌, ℕ, zero, false, List, [], ◌∷◌, None, Some, refl, sym, ap, subst, ◌∙◌, ⊎_elim}
use Rattle.std.specs.Prelude.{◌||◌, IsSomeAnd, is_some}
use Rattle.std.proofs.lemmas.Bool.{cases_eq, ne_eqb}
use Rattle.std.specs.FinMap as map
use Rattle.lfs_types.specs.declared.attrs.Kind.TheVariants.{Directory}
use Rattle.lfs_types.specs.Tree.{Content, File, Row, root}
use Rattle.lfs_types.proofs.Maps.{each_inserted, get-insert_same, get-insert_other, none_at_first}
use Rattle.lfs_types.proofs.Somewhere.{some_and, is_some_and}
use Rattle.lfs_dirs.specs.Directory.{number_in}
use Rattle.lfs_dirs.proofs.Changes.{number_in-nil}
use Rattle.lfs_model.specs.World.{Rows, ancestor, child, IsChild, IsTree}
use Rattle.lfs_model.proofs.Children.{child-answer}
use Rattle.lfs_calls.specs.Content.{IsDirectoryAt, visible}
use Rattle.lfs_calls.proofs.Visible.{visible_bytes-directory, visible_bytes-none}
use Rattle.lfs_trees.specs.Marks.{is_among}
use Rattle.lfs_trees.specs.Walks.{Reaches}
use Rattle.lfs_trees.proofs.Turning.{so_far-none}

-- of a directory's bytes none are seen
pub visible-empty : (f : File) → f.kind ≡ Directory → (visible f).bytes ≡ []
visible-empty f kind = visible_bytes-directory f.kind f.bytes [] kind ∙ visible_bytes-none f.kind

module _ (c : Content) (f : File) (stored : map.get c root ≡ Some f) (kind : f.kind ≡ Directory) where
  abbrev row : Row
  row = record { parent = root; name = []; file = visible f }

  abbrev rows : Rows
  rows = map.insert map.empty root row

  each : (P : ℕ → Row → Type 0) → P root row → (n : ℕ) (r : Row) → map.get rows n ≡ Some r → P n r
  each P here = each_inserted map.empty root row P here (λ n r apart there. absurd (none_at_first n r there))

  here : map.get rows root ≡ Some row
  here = get-insert_same map.empty root row

  alone : (n : ℕ) (r : Row) → map.get rows n ≡ Some r → n ≡ root
  alone = each (λ n r. n ≡ root) refl

  childless : (parent : ℕ) (name : List ℕ) (n : ℕ) → IsChild rows parent name n → ⊥
  childless parent name n child = child.below (alone n child.row child.there)

  one_row : IsTree rows
  unfolding ancestor
  one_row = record {
    rooted = is_some_and _ here (refl, refl, kind);
    unique = λ parent name m n one other. absurd (childless parent name m one);
    parents = each (λ n r. IsSomeAnd (map.get rows r.parent) (λ p. p.file.kind ≡ Directory)) (is_some_and _ here kind);
    reached = each (λ n r. (k : ℕ) × (ancestor rows k n ≡ root)) (zero, refl);
    empty = each (λ n r. r.file.kind ≡ Directory → r.file.bytes ≡ []) (visible-empty f);
    numbers = λ n r there apart. absurd (apart (alone n r there));
  }

  rooted_at : Reaches c (root ∷ []) [] 0 []
  rooted_at = (
    rows,
    record {
      tree = one_row;
      reached = λ n. ⊎_elim
          (λ same. subst (λ k. is_some (map.get rows k) ≡ is_among (root ∷ []) k) (sym same) (ap is_some here))
          (λ other. ap is_some (get-insert_other map.empty root row n other ∙ map.get-empty _ n)
          ∙ sym (ap (λ b. b || false) (ne_eqb n root other)))
          (cases_eq n root);
      shown = each (λ n r. IsSomeAnd (map.get c n) (λ g. visible g ≡ r.file))
          (is_some_and (λ g. visible g ≡ visible f) stored refl);
      listed = λ n r there apart. absurd (apart (alone n r there));
      complete = λ d among. absurd (cc);
      later = λ d none name. child-answer rows one_row.unique d name None (childless d name)
          ∙ sym (ap (number_in name) (so_far-none 0 d) ∙ number_in-nil name);
    },
  )

-- a walk begins at the root, where that is a directory
pub reaches_root : (c : Content) → IsDirectoryAt c root → Reaches c (root ∷ []) [] 0 []
reaches_root c directory =
    let f = some_and (map.get c root) (λ (x : File). x.kind ≡ Directory) directory in
    rooted_at c f.value f.is f.holds
