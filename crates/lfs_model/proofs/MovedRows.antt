-- A row at another place is as if it had been removed and put there: `child-moved`, `child-moved_other` and
-- `unique-moved`, for Moved and the stores' lemmas on a Rename. Both maps answer alike at each number (`put_back`), and
-- look-ups rest on the answers alone (`child-same`), so what Shrunk and Grown say of removal and growth holds of the
-- move. The place must be free without the row too (`free_still`); a Rename within one directory to another name is no
-- special case for that.
use Rattle.std.proofs.Common.{◌≡◌, ℕ, List, Option, None, Some, refl, sym, ap, ◌∙◌, ⊎_elim}
use Rattle.std.proofs.lemmas.Bool.{cases_eq}
use Rattle.std.specs.FinMap as map
use Rattle.lfs_types.specs.Tree.{Row, root}
use Rattle.lfs_model.specs.World.{Rows, child, IsChild}
use Rattle.lfs_model.proofs.Children.{IsChildAnswer, IsUnique, child-none, child-answer, is_child_answer, child-new}
use Rattle.lfs_model.proofs.Children.{child-new_other, unique-new}
use Rattle.lfs_types.proofs.Maps.{get-insert_same, get-insert_other, get-remove_same, get-remove_other}
use Rattle.lfs_model.proofs.Shrunk.{hung, unique-shrunk}

-- ---- two maps that give the same rows

module _ (a b : Rows) (same : (m : ℕ) → map.get a m ≡ map.get b m) where
  hangs_too : (parent : ℕ) (name : List ℕ) (m : ℕ) → IsChild a parent name m → IsChild b parent name m
  hangs_too parent name m c = record {
    row = c.row;
    there = sym (same m) ∙ c.there;
    below = c.below;
    hangs = c.hangs;
    named = c.named;
  }

  hung_too : (parent : ℕ) (name : List ℕ) (m : ℕ) → IsChild b parent name m → IsChild a parent name m
  hung_too parent name m c = record {
    row = c.row;
    there = same m ∙ c.there;
    below = c.below;
    hangs = c.hangs;
    named = c.named;
  }

  unique-same : IsUnique a → IsUnique b
  unique-same unique parent name m k c d = unique parent name m k (hung_too parent name m c) (hung_too parent name k d)

  answer_too : (parent : ℕ) (name : List ℕ) (found : Option ℕ) → IsChildAnswer a parent name found
      → IsChildAnswer b parent name found
  answer_too parent name None h = λ m c. h m (hung_too parent name m c)
  answer_too parent name (Some m) h = hangs_too parent name m h

  -- the look-ups find the same
  pub child-same : IsUnique a → (parent : ℕ) (name : List ℕ) → child b parent name ≡ child a parent name
  child-same unique parent name = child-answer b (unique-same unique) parent name (child a parent name)
      (answer_too parent name _ (is_child_answer a parent name _ refl))

-- ---- a row at another place

module _ (rows : Rows) (n : ℕ) (row : Row) (below : n ≡ root → ⊥) (unique : IsUnique rows)
    (free : child rows row.parent row.name ≡ None) where
  abbrev removed : Rows
  removed = map.remove rows n

  put_back : (m : ℕ) → map.get (map.insert removed n row) m ≡ map.get (map.insert rows n row) m
  put_back m = ⊎_elim
      (λ e. ap (map.get (map.insert removed n row)) e ∙ get-insert_same removed n row ∙ sym (get-insert_same rows n row)
      ∙ sym (ap (map.get (map.insert rows n row)) e))
      (λ other. get-insert_other removed n row m other ∙ get-remove_other rows n m other
      ∙ sym (get-insert_other rows n row m other))
      (cases_eq m n)

  -- the new place is free without the row too
  pub free_still : child removed row.parent row.name ≡ None
  free_still = child-answer _ (unique-shrunk rows n unique) row.parent row.name None
      (λ m c. child-none rows row.parent row.name free m (hung rows n row.parent row.name m c))

  unique-put_back : IsUnique (map.insert removed n row)
  unique-put_back = unique-new removed n row (get-remove_same rows n) below free_still (unique-shrunk rows n unique)

  -- no two rows hang under one parent and name
  pub unique-moved : IsUnique (map.insert rows n row)
  unique-moved = unique-same _ _ put_back unique-put_back

  -- the row hangs at its new place
  pub child-moved : child (map.insert rows n row) row.parent row.name ≡ Some n
  child-moved = child-same _ _ put_back unique-put_back row.parent row.name
      ∙ child-new removed n row (get-remove_same rows n) below free_still (unique-shrunk rows n unique)

  -- elsewhere hangs what hung there without it
  pub child-moved_other : (parent : ℕ) (name : List ℕ) → (row.parent ≡ parent → row.name ≡ name → ⊥)
      → child (map.insert rows n row) parent name ≡ child removed parent name
  child-moved_other parent name apart =
      child-same _ _ put_back unique-put_back parent name
      ∙ child-new_other removed n row (get-remove_same rows n) below free_still
      (unique-shrunk rows n unique) parent name apart
