-- What hangs where after a row got the place of another, which was removed: `child-swapped`, `child-swapped_other`,
-- `swapped_gone` and `swapped_files`, for the store after a Rename (SwappedStore, MovedNames). Without the replaced row
-- its name is free, so the moved row hangs there alone. Elsewhere hangs what hangs without the moved row: for that the
-- two removals are taken in the other order (`removed_both`), and the replaced row's name is left out.
use Rattle.std.proofs.Common.{◌≡◌, ◌≢◌, ℕ, List, None, Some, sym, ap, ◌∙◌, ⊎_elim}
use Rattle.std.proofs.lemmas.Bool.{cases_eq}
use Rattle.std.specs.Prelude.{option_map}
use Rattle.std.specs.FinMap as map
use Rattle.lfs_types.specs.Tree.{Row}
use Rattle.lfs_model.specs.World.{Rows, child, IsChild}
use Rattle.lfs_model.proofs.Children.{IsUnique}
use Rattle.lfs_model.proofs.MovedRows.{child-moved, child-moved_other, child-same}
use Rattle.lfs_model.proofs.Shrunk.{child-removed, child-left_elsewhere, hangs_still, unique-shrunk}
use Rattle.lfs_types.proofs.Maps.{get-insert_same, get-insert_other, get-remove_same, get-remove_other}

-- two removals are one in either order
removed_both : (rows : Rows) (n m k : ℕ) → map.get (map.remove (map.remove rows n) m) k
    ≡ map.get (map.remove (map.remove rows m) n) k
removed_both rows n m k = ⊎_elim
    (λ e. ap (map.get (map.remove (map.remove rows n) m)) e ∙ get-remove_same (map.remove rows n) m
    ∙ sym (ap (map.get (map.remove (map.remove rows m) n)) e ∙ gone_first rows n m))
    (λ apart. get-remove_other (map.remove rows n) m k apart ∙ ⊎_elim
    (λ e. ap (map.get (map.remove rows n)) e ∙ get-remove_same rows n
    ∙ sym (ap (map.get (map.remove (map.remove rows m) n)) e ∙ get-remove_same (map.remove rows m) n))
    (λ away. get-remove_other rows n k away ∙ sym (get-remove_other (map.remove rows m) n k away
    ∙ get-remove_other rows m k apart))
    (cases_eq k n))
    (cases_eq k m)
  where
    gone_first : (rows : Rows) (n m : ℕ) → map.get (map.remove (map.remove rows m) n) m ≡ None
    gone_first rows n m = ⊎_elim
        (λ e. ap (map.get (map.remove (map.remove rows m) n)) e ∙ get-remove_same (map.remove rows m) n)
        (λ apart. get-remove_other (map.remove rows m) n m apart ∙ get-remove_same rows m)
        (cases_eq m n)

module _ (rows : Rows) (unique : IsUnique rows) (n m p q : ℕ) (old new : List ℕ) (apart : m ≢ n)
    (from : IsChild rows p old n) (there : IsChild rows q new m) where
  -- the moved row
  abbrev pub moved_row : Row
  moved_row = record from.row { parent = q; name = new }

  -- the rows with it, and without the other
  abbrev pub swapped : Rows
  swapped = map.insert (map.remove rows m) n moved_row

  -- the moved row has the name
  pub child-swapped : child swapped q new ≡ Some n
  child-swapped = child-moved (map.remove rows m) n moved_row from.below (unique-shrunk rows m unique)
      (child-removed rows m unique q new there)

  -- elsewhere hangs what hung there without it
  pub child-swapped_other : (d : ℕ) (x : List ℕ) → (q ≡ d → new ≡ x → ⊥) → child swapped d x
      ≡ child (map.remove rows n) d x
  child-swapped_other d x other =
      child-moved_other (map.remove rows m) n moved_row from.below (unique-shrunk rows m unique)
      (child-removed rows m unique q new there) d x other
      ∙ child-same (map.remove (map.remove rows n) m) (map.remove (map.remove rows m) n) (removed_both rows n m)
      (unique-shrunk (map.remove rows n) m (unique-shrunk rows n unique)) d x
      ∙ child-left_elsewhere (map.remove rows n) m (unique-shrunk rows n unique) q new
      (hangs_still rows n q new m apart there) d x (λ e f. other (sym e) (sym f))

  -- the other row is gone
  pub swapped_gone : map.get swapped m ≡ None
  swapped_gone = get-insert_other (map.remove rows m) n moved_row m apart ∙ get-remove_same rows m

  -- and each that is left has its file
  pub swapped_files : (x : ℕ) → x ≢ m → option_map (λ (r : Row). r.file) (map.get swapped x)
      ≡ option_map (λ (r : Row). r.file) (map.get rows x)
  swapped_files x left = ⊎_elim
      (λ e. ap (λ i. option_map (λ (r : Row). r.file) (map.get swapped i)) e
      ∙ ap (option_map (λ (r : Row). r.file)) (get-insert_same (map.remove rows m) n moved_row)
      ∙ sym (ap (option_map (λ (r : Row). r.file)) (ap (map.get rows) e ∙ from.there)))
      (λ away. ap (option_map (λ (r : Row). r.file)) (get-insert_other (map.remove rows m) n moved_row x away
      ∙ get-remove_other rows m x left))
      (cases_eq x n)
