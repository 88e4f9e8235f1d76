-- A store with a new file, which a directory's block lists, shows the tree with the new row: `Shows-grown`, for
-- CreateLemmas. Each number is the new one, the directory's or another, and each of the three parts of Shows is proved
-- by these cases (`at_each`): the new file is empty, so it has a length and lists nothing. Nothing hangs in the new row
-- as no row had that number as its parent (`childless`), which needs the tree; a number that some row still named would
-- get children.
use Rattle.std.proofs.Common.{◌≡◌, ◌≢◌, ℕ, List, [], length, None, Some, sym, ap, subst, ◌∙◌, ⊎_elim, arith}
use Rattle.std.proofs.lemmas.Bool.{cases_eq}
use Rattle.std.specs.Prelude.{option_map}
use Rattle.std.specs.FinMap as map
use Rattle.lfs_types.specs.Changes.{IsLength}
use Rattle.lfs_types.specs.Tree.{File, Row, World, Content, root}
use Rattle.lfs_types.specs.declared.attrs.Kind.{Kind}
use Rattle.lfs_types.specs.declared.attrs.Kind.TheVariants.{File as Regular, Directory}
use Rattle.lfs_dirs.proofs.Changes.{number_in-nil}
use Rattle.lfs_model.specs.World.{Rows, child, IsTree}
use Rattle.lfs_calls.specs.Content.{visible, Shows, ListsRows, entries_below}
use Rattle.lfs_model.proofs.Children.{child-answer, child-new_other}
use Rattle.lfs_types.proofs.Maps.{get-insert_same, get-insert_other}
use Rattle.lfs_types.proofs.Somewhere.{some_and}
use Rattle.lfs_calls.proofs.Visible.{visible-none, visible-directory}

-- an empty file has a length that each kind may have
empty_length : (k : Kind) → IsLength k 0
empty_length Regular = omega arith
empty_length Directory = (omega arith, omega arith)

module _ (c after : Content) (w : World) (shows : Shows c w) (tree : IsTree w.rows) (n : ℕ) (row : Row) (f : File)
    (bytes : List ℕ)
    (absent : map.get w.rows n ≡ None) (below : n ≡ root → ⊥)
    (free : child w.rows row.parent row.name ≡ None)
    (stored : map.get c row.parent ≡ Some f) (directory : f.kind ≡ Directory)
    (unlike : row.parent ≢ n)
    (empty : row.file.bytes ≡ [])
    (made : map.get after n ≡ Some row.file)
    (written : map.get after row.parent ≡ Some (record f { bytes = bytes }))
    (others : (q : ℕ) → q ≢ n → q ≢ row.parent → map.get after q ≡ map.get c q)
    (size : IsLength Directory (length bytes))
    (listing : ListsRows (map.insert w.rows n row) row.parent bytes) where
  abbrev grown : Rows
  grown = map.insert w.rows n row

  -- one of three places
  at_each : (P : ℕ → Type 0) → P n → P row.parent → ((q : ℕ) → q ≢ n → q ≢ row.parent → P q) → (q : ℕ) → P q
  at_each P new dir other q = ⊎_elim
      (λ e. subst P (sym e) new)
      (λ apart. ⊎_elim (λ e. subst P (sym e) dir) (λ away. other q apart away) (cases_eq q row.parent))
      (cases_eq q n)

  files_after : (q : ℕ) → option_map visible (map.get after q) ≡ option_map (λ (r : Row). r.file) (map.get grown q)
  files_after = at_each (λ q. option_map visible (map.get after q) ≡ option_map (λ (r : Row). r.file) (map.get grown q))
      (ap (option_map visible) made ∙ ap Some (visible-none row.file empty)
      ∙ sym (ap (option_map (λ (r : Row). r.file)) (get-insert_same w.rows n row)))
      (ap (option_map visible) written ∙ ap Some (visible-directory f bytes directory)
      ∙ sym (ap (option_map visible) stored) ∙ shows.files row.parent
      ∙ sym (ap (option_map (λ (r : Row). r.file)) (get-insert_other w.rows n row row.parent unlike)))
      (λ q apart away. ap (option_map visible) (others q apart away) ∙ shows.files q
      ∙ sym (ap (option_map (λ (r : Row). r.file)) (get-insert_other w.rows n row q apart)))

  sizes_after : (q : ℕ) (g : File) → map.get after q ≡ Some g → IsLength g.kind (length g.bytes)
  sizes_after = at_each (λ q. (g : File) → map.get after q ≡ Some g → IsLength g.kind (length g.bytes))
      (λ g e. let same : row.file ≡ g = cc in
      subst (λ (x : File). IsLength x.kind (length x.bytes)) same
      (subst (λ bs. IsLength row.file.kind (length bs)) (sym empty) (empty_length row.file.kind)))
      (λ g e. let same : record f { bytes = bytes } ≡ g = cc in
      subst (λ (x : File). IsLength x.kind (length x.bytes)) same
      (subst (λ k. IsLength k (length bytes)) (sym directory) size))
      (λ q apart away g e. shows.sizes q g (sym (others q apart away) ∙ e))

  -- nothing hangs in the new row
  childless : (name : List ℕ) → child grown n name ≡ None
  childless name = child-new_other w.rows n row absent below free tree.unique n name (λ e _. unlike e)
      ∙ child-answer w.rows tree.unique n name None (λ m h.
      let up = some_and (map.get w.rows h.row.parent) _ (tree.parents m h.row h.there) in
      let here : map.get w.rows n ≡ Some up.value = sym (ap (map.get w.rows) h.hangs) ∙ up.is in
      absurd (cc))

  lists_nothing : (bs : List ℕ) → bs ≡ [] → ListsRows grown n bs
  unfolding entries_below
  lists_nothing bs none = subst (ListsRows grown n) (sym none) (record {
    blocks = λ k h. absurd (omega arith);
    distinct = tt;
    names = λ name. number_in-nil name ∙ sym (childless name);
  })

  listings_after : (q : ℕ) (g : File) → map.get after q ≡ Some g → g.kind ≡ Directory → ListsRows grown q g.bytes
  listings_after = at_each (λ q. (g : File) → map.get after q ≡ Some g → g.kind ≡ Directory → ListsRows grown q g.bytes)
      (λ g e _. let same : row.file ≡ g = cc in lists_nothing g.bytes (sym (ap (λ (x : File). x.bytes) same) ∙ empty))
      (λ g e _. let same : record f { bytes = bytes }
      ≡ g = cc in subst (λ (x : File). ListsRows grown row.parent x.bytes) same listing)
      (λ q apart away g e kind.
      let was = shows.listings q g (sym (others q apart away) ∙ e) kind in
      record {
        blocks = was.blocks;
        distinct = was.distinct;
        names = λ name. was.names name ∙ sym (child-new_other w.rows n row absent below free tree.unique q name
            (λ h _. away (sym h)));
      })

  -- the store shows the world with the new row
  pub Shows-grown : Shows after (record w { rows = grown })
  Shows-grown = record { files = files_after; sizes = sizes_after; listings = listings_after }
