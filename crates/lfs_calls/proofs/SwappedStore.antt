-- A store in which a row's old entry was taken, another entry got its number, and the file that had the place was
-- removed, shows the tree with the row in that place: `Shows-swapped`, for MovedNames. The first block is written as
-- for any move (MovedStore), the second lists the same names with one number changed (ListingsSwapped), and the rows
-- after it are those of SwappedRows. The removal leaves each other file (`left`), so what both blocks make of sizes and
-- listings holds still; it's for the tree, not for this, that the removed row must be childless.
use Rattle.std.proofs.Common.{◌≡◌, ◌≢◌, ℕ, ◌^◌, ◌<◌, List, length, None, Some, sym, ap, subst, ◌∙◌, ⊎_elim}
use Rattle.std.proofs.lemmas.Bool.{cases_eq}
use Rattle.std.specs.Prelude.{option_map}
use Rattle.std.specs.FinMap as map
use Rattle.lfs_types.specs.Changes.{IsLength}
use Rattle.lfs_types.specs.Splicing.{splice}
use Rattle.lfs_types.specs.Tree.{File, Row, World, Content}
use Rattle.lfs_types.specs.declared.attrs.Kind.TheVariants.{Directory}
use Rattle.lfs_calls.specs.declared.directory.DirBlock.{DirBlock}
use Rattle.lfs_model.specs.World.{Rows, IsChild, IsTree}
use Rattle.lfs_calls.specs.Content.{visible, Shows, ListsRows}
use Rattle.lfs_calls.specs.Removes.{IsTaking}
use Rattle.lfs_calls.specs.Renames.{IsSwap, block_put}
use Rattle.lfs_calls.proofs.ListingsSwapped.{ListsRows-swapped, swapped_length}
use Rattle.lfs_calls.proofs.MovedStore.{AreListed, AreSized, listed_after, seen_same, sized_after, taken_listed}
use Rattle.lfs_calls.proofs.MovedStore.{taken_sized}
use Rattle.lfs_calls.proofs.SwappedRows.{child-swapped, child-swapped_other, swapped, swapped_files, swapped_gone}
use Rattle.lfs_model.proofs.Children.{child-answer}
use Rattle.lfs_model.proofs.Shrunk.{hangs_still, unique-shrunk}
use Rattle.lfs_types.proofs.Maps.{get-remove_same, get-remove_other}

module _ (c : Content) (w : World) (shows : Shows c w) (tree : IsTree w.rows) (n p : ℕ) (old : List ℕ)
    (hangs : IsChild w.rows p old n)
    (f : File) (stored : map.get c p ≡ Some f) (directory : f.kind ≡ Directory) (taken : DirBlock) (k : ℕ)
    (taking : IsTaking f.bytes old taken k)
    (q : ℕ) (name : List ℕ) (m : ℕ) (there : IsChild w.rows q name m) (apart : m ≢ n) (above : 0 < n)
    (small : n < 2 ^ 32)
    (g : File) (stored_new : map.get (block_put p taken c) q ≡ Some g) (directory_new : g.kind ≡ Directory)
    (room : DirBlock) (j : ℕ) (swap : IsSwap g.bytes name n room j) where
  -- the content after both blocks
  abbrev pub c_after : Content
  c_after = block_put q room (block_put p taken c)

  -- the rows with the moved one, and without the other
  abbrev rows_after : Rows
  rows_after = swapped w.rows tree.unique n m p q old name apart hangs there

  listed_before : AreListed (block_put p taken c) (map.remove w.rows n)
  listed_before = taken_listed c w shows tree n p old hangs f stored directory taken k taking

  sized_before : AreSized (block_put p taken c)
  sized_before = taken_sized c w shows tree n p old hangs f stored directory taken k taking

  long : IsLength Directory (length g.bytes)
  long = subst (λ x. IsLength x (length g.bytes)) directory_new (sized_before q g stored_new)

  listing_after : ListsRows rows_after q (splice g.bytes room.off room.block)
  listing_after = ListsRows-swapped g.bytes name n room j swap (map.remove w.rows n) rows_after q m
      (listed_before q g stored_new directory_new) long.1
      (child-answer _ (unique-shrunk w.rows n tree.unique) q name (Some m) (hangs_still w.rows n q name m apart there))
      above small
      (child-swapped w.rows tree.unique n m p q old name apart hangs there)
      (λ x other. child-swapped_other w.rows tree.unique n m p q old name apart hangs there q x (λ _ same. other same))

  listed_now : AreListed c_after rows_after
  listed_now = listed_after (block_put p taken c) q g stored_new directory_new room
      (map.remove w.rows n) rows_after listed_before
      (λ d away x. child-swapped_other w.rows tree.unique n m p q old name apart hangs there d x (λ e _. away (sym e)))
      listing_after

  sized_now : AreSized c_after
  sized_now = sized_after (block_put p taken c) q g stored_new directory_new room sized_before
      (subst (IsLength Directory) (sym (swapped_length g.bytes name n room j swap)) long)

  -- a file that is there after the removal is another, and is what it was
  module _ (after : Content) (same : (x : ℕ) → map.get after x ≡ map.get (map.remove c_after m) x) where
    record Left (x : ℕ) (h : File) : Type 0 where
      other : x ≢ m
      is : map.get c_after x ≡ Some h

    left : (x : ℕ) (h : File) → map.get after x ≡ Some h → Left x h
    left x h e = ⊎_elim
        (λ gone. let none : map.get after x ≡ None = same x ∙ ap (map.get (map.remove c_after m)) gone
        ∙ get-remove_same c_after m in absurd (cc))
        (λ other. record { other = other; is = sym (get-remove_other c_after m x other) ∙ sym (same x) ∙ e })
        (cases_eq x m)

    files_after : (x : ℕ) → option_map visible (map.get after x)
        ≡ option_map (λ (r : Row). r.file) (map.get rows_after x)
    files_after x = ⊎_elim
        (λ gone. ap (option_map visible) (same x ∙ ap (map.get (map.remove c_after m)) gone ∙ get-remove_same c_after m)
        ∙ sym (ap (option_map (λ (r : Row). r.file)) (ap (map.get rows_after) gone
        ∙ swapped_gone w.rows tree.unique n m p q old name apart hangs there)))
        (λ other. ap (option_map visible) (same x ∙ get-remove_other c_after m x other)
        ∙ seen_same (block_put p taken c) q g stored_new directory_new room x ∙ seen_same c p f stored directory taken x
        ∙ shows.files x ∙ sym (swapped_files w.rows tree.unique n m p q old name apart hangs there x other))
        (cases_eq x m)

    -- the store shows the world with the moved row in the other's place
    pub Shows-swapped : Shows after (record w { rows = rows_after })
    Shows-swapped = record {
      files = files_after;
      sizes = λ x h e. sized_now x h (left x h e).is;
      listings = λ x h e. listed_now x h (left x h e).is;
    }
