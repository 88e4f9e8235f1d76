-- The store after a row was removed shows the tree without that row: `Shows-shrunk`, for TakeLemmas. The store lacks
-- the removed number, has other bytes at the directory's, and is else as it was; so a file that it has is the
-- directory's or one of before (`left`). Of a directory users see no bytes, so all files look as before; its bytes list
-- its rows without the removed one, and in each other directory hangs what hung, as a name in it is not that of the
-- removed row.
use Rattle.std.proofs.Common.{◌≡◌, ◌≢◌, ℕ, List, length, None, Some, sym, ap, subst, ◌∙◌, ⊎_elim}
use Rattle.std.proofs.lemmas.Bool.{cases_eq}
use Rattle.std.specs.Prelude.{option_map}
use Rattle.std.specs.FinMap as map
use Rattle.lfs_types.specs.Changes.{IsLength}
use Rattle.lfs_types.specs.Tree.{File, Row, World, Content}
use Rattle.lfs_types.specs.declared.attrs.Kind.TheVariants.{Directory}
use Rattle.lfs_model.specs.World.{Rows, IsChild, IsTree}
use Rattle.lfs_model.specs.Effects.{without_row}
use Rattle.lfs_calls.specs.Content.{visible, Shows, ListsRows}
use Rattle.lfs_types.proofs.Maps.{get-remove_same, get-remove_other}
use Rattle.lfs_model.proofs.Shrunk.{child-left_elsewhere}
use Rattle.lfs_calls.proofs.Visible.{visible-directory}

module _ (c after : Content) (w : World) (shows : Shows c w) (tree : IsTree w.rows) (n dir : ℕ) (name : List ℕ)
    (hangs : IsChild w.rows dir name n)
    (f : File) (bytes : List ℕ) (stored : map.get c dir ≡ Some f) (directory : f.kind ≡ Directory) (unlike : dir ≢ n)
    (gone : map.get after n ≡ None)
    (written : map.get after dir ≡ Some (record f { bytes = bytes }))
    (others : (q : ℕ) → q ≢ n → q ≢ dir → map.get after q ≡ map.get c q)
    (size : IsLength Directory (length bytes))
    (listing : ListsRows (map.remove w.rows n) dir bytes) where
  abbrev shrunk : Rows
  shrunk = map.remove w.rows n

  -- a file that is left: the directory, or one that stays
  left : (P : ℕ → File → Type 0) → P dir (record f { bytes = bytes })
      → ((q : ℕ) (g : File) → q ≢ dir → map.get c q ≡ Some g → P q g)
      → (q : ℕ) (g : File) → map.get after q ≡ Some g → P q g
  left P here other q g e = ⊎_elim
      (λ same. let none : map.get after q ≡ None = ap (map.get after) same ∙ gone in absurd (cc))
      (λ apart. ⊎_elim
      (λ same. let is : record f { bytes = bytes }
      ≡ g = cc (ap (map.get after) same) in subst (λ k. P k g) (sym same) (subst (P dir) is here))
      (λ away. other q g away (sym (others q apart away) ∙ e))
      (cases_eq q dir))
      (cases_eq q n)

  files_after : (q : ℕ) → option_map visible (map.get after q) ≡ option_map (λ (r : Row). r.file) (map.get shrunk q)
  files_after q = ⊎_elim
      (λ same. subst (λ k. option_map visible (map.get after k) ≡ option_map (λ (r : Row). r.file) (map.get shrunk k))
      (sym same)
      (ap (option_map visible) gone ∙ sym (ap (option_map (λ (r : Row). r.file)) (get-remove_same w.rows n))))
      (λ apart. here q apart ∙ shows.files q ∙ sym
      (ap (option_map (λ (r : Row). r.file)) (get-remove_other w.rows n q apart)))
      (cases_eq q n) where
        here : (q : ℕ) → q ≢ n → option_map visible (map.get after q) ≡ option_map visible (map.get c q)
        here q apart = ⊎_elim
            (λ same. subst (λ k. option_map visible (map.get after k) ≡ option_map visible (map.get c k)) (sym same)
            (ap (option_map visible) written ∙ ap Some (visible-directory f bytes directory)
            ∙ sym (ap (option_map visible) stored)))
            (λ away. ap (option_map visible) (others q apart away))
            (cases_eq q dir)

  -- the store shows the world without the row
  pub Shows-shrunk : Shows after (without_row n w)
  Shows-shrunk = record {
    files = files_after;
    sizes = left (λ q g. IsLength g.kind (length g.bytes)) (subst (λ k. IsLength k (length bytes)) (sym directory) size)
        (λ q g away e. shows.sizes q g e);
    listings = left (λ q g. g.kind ≡ Directory → ListsRows shrunk q g.bytes) (λ _. listing) (λ q g away e kind.
        let was = shows.listings q g e kind in
        record {
          blocks = was.blocks;
          distinct = was.distinct;
          names = λ p. was.names p ∙ sym (child-left_elsewhere w.rows n tree.unique dir name hangs q p
              (λ same _. away same));
        });
  }
