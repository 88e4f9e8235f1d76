-- A store in which one row's file was changed shows the world with that file: `change_shows` and `change_tree`, for
-- AttributeLemmas and ChangeLemmas. No name changes and no directory's bytes do, so listings and tree are as they were,
-- and the visible file is changed as the world's is. The file must keep its kind and, if it's a directory, its bytes; a
-- change of a directory's bytes goes through MovedStore, GrownStore or ShrunkStore.
use Rattle.std.proofs.Common.{◌≡◌, ◌≢◌, ℕ, List, [], length, Some, refl, sym, ap, subst, ◌∙◌, ⊎_elim}
use Rattle.std.proofs.lemmas.Bool.{cases_eq}
use Rattle.std.specs.Prelude.{option_map}
use Rattle.std.specs.FinMap as map
use Rattle.lfs_types.specs.Changes.{IsLength}
use Rattle.lfs_types.specs.Tree.{File, Row, World, Content, root}
use Rattle.lfs_types.specs.declared.attrs.Kind.TheVariants.{Directory}
use Rattle.lfs_model.specs.World.{Rows, child, IsTree}
use Rattle.lfs_model.specs.Rules.{reached}
use Rattle.lfs_model.specs.Effects.{with_file, with_change}
use Rattle.lfs_calls.specs.Content.{visible_bytes, visible, Shows, ListsRows}
use Rattle.lfs_model.proofs.Children.{child-stays}
use Rattle.lfs_types.proofs.Maps.{get-insert_same, get-insert_other, each_value}
use Rattle.lfs_calls.proofs.Visible.{Stored, shown_of}
use Rattle.lfs_model.proofs.Changed.{IsTree-changed}

-- what a directory shows has no bytes
pub visible-empty : (f : File) → f.kind ≡ Directory → (visible f).bytes ≡ []
visible-empty f h = subst (λ k. visible_bytes k f.bytes ≡ []) (sym h) refl

-- the store after it
module _ (c after : Content) (w : World) (shows : Shows c w) (tree : IsTree w.rows) (n : ℕ) (r : Row)
    (there : map.get w.rows n ≡ Some r)
    (f file : File) (stored : map.get c n ≡ Some f) (kind : file.kind ≡ f.kind)
    (size : IsLength file.kind (length file.bytes))
    (blocks : f.kind ≡ Directory → file.bytes ≡ f.bytes)
    (written : map.get after n ≡ Some file)
    (others : (q : ℕ) → q ≢ n → map.get after q ≡ map.get c q) where
  abbrev rows_after : Rows
  rows_after = map.insert w.rows n (record r { file = visible file })

  same_children : (parent : ℕ) (name : List ℕ) → child rows_after parent name ≡ child w.rows parent name
  same_children = child-stays w.rows n r (record r { file = visible file }) there refl refl tree.unique

  -- the store shows the world with the changed file
  pub Shows-changed : Shows after (record w { rows = rows_after })
  Shows-changed = record {
    files = λ q. ⊎_elim
        (λ same. subst (λ k. option_map visible (map.get after k)
        ≡ option_map (λ (x : Row). x.file) (map.get rows_after k)) (sym same)
        (ap (option_map visible) written ∙ sym (ap (option_map (λ (x : Row). x.file))
        (get-insert_same w.rows n (record r { file = visible file })))))
        (λ apart. ap (option_map visible) (others q apart) ∙ shows.files q
        ∙ sym (ap (option_map (λ (x : Row). x.file))
        (get-insert_other w.rows n (record r { file = visible file }) q apart)))
        (cases_eq q n);
    sizes = each_value c after n file written others (λ q g. IsLength g.kind (length g.bytes)) size
        (λ q g apart. shows.sizes q g);
    listings = each_value c after n file written others (λ q g. g.kind ≡ Directory → ListsRows rows_after q g.bytes)
        (λ is.
        let was = shows.listings n f stored (sym kind ∙ is) in
        subst (ListsRows rows_after n) (sym (blocks (sym kind ∙ is)))
        (record {
          blocks = was.blocks;
          distinct = was.distinct;
          names = λ name. was.names name
              ∙ sym (same_children n name);
        }))
        (λ q g apart e is.
        let was = shows.listings q g e is in
        record {
          blocks = was.blocks;
          distinct = was.distinct;
          names = λ name. was.names name
              ∙ sym (same_children q name);
        });
  }

-- the world after the file at a path's end was changed
module _ (c : Content) (w : World) (shows : Shows c w) (tree : IsTree w.rows) (path : List (List ℕ)) (n : ℕ)
    (leads : reached w.rows root path ≡ n)
    (f file : File) (stored : map.get c n ≡ Some f) (kind : file.kind ≡ f.kind) (change : File → File)
    (seen : visible file ≡ change (visible f)) where
  abbrev old : Stored w n f
  old = shown_of c w shows n f stored

  world_after : with_change w path change ≡ record w {
    rows =
        map.insert w.rows n (record old.row { file = visible file });
  }
  world_after =
      ap (λ m. with_file (map.get w.rows m) m change w) leads
      ∙ ap (λ o. with_file o n change w) old.there
      ∙ ap (λ (x : File). record w { rows = map.insert w.rows n (record old.row { file = x }) })
      (ap change (sym old.same) ∙ sym seen)

  -- it is a tree
  pub change_tree : IsTree (with_change w path change).rows
  change_tree = subst (λ (x : World). IsTree x.rows) (sym world_after)
      (IsTree-changed w.rows tree n old.row old.there (visible file) (kind ∙ ap (λ (x : File). x.kind) old.same)
      (visible-empty file))

  -- the store that has the changed file shows it
  pub change_shows : (after : Content) → IsLength file.kind (length file.bytes)
      → (f.kind ≡ Directory → file.bytes ≡ f.bytes) → map.get after n ≡ Some file
      → ((q : ℕ) → q ≢ n → map.get after q ≡ map.get c q)
      → Shows after (with_change w path change)
  change_shows after size blocks written others = subst (Shows after) (sym world_after)
      (Shows-changed c after w shows tree n old.row old.there f file stored kind size blocks written others)
