-- After a Rename the store shows the moved row, and a cache may say its new name and no more its old one: `moves_row`,
-- for `move_row`, with `shows_free` and `shows_over` for RenameEffects, by whether another row gives way. A move
-- changes where one row hangs and no row's file, so every other name leads where it led (`found_still`), and the two
-- names of the move are read off the tree after it. Over another row that row's number is gone, and nothing hung in it
-- (`childless`), so no name that was found in it is lost; a Rename over a filled directory would break this.
use Rattle.std.proofs.Common.{◌≡◌, ◌≢◌, ℕ, ◌/◌, List, Option, None, Some, sym, ap, subst, ◌∙◌, ⊎_elim}
use Rattle.std.proofs.lemmas.Bool.{cases_eq}
use Rattle.std.specs.Prelude.{option_map}
use Rattle.std.specs.FinMap as map
use Rattle.lfs_types.specs.Stored.{bytes_of_file}
use Rattle.lfs_types.specs.Tree.{Row, World, Content}
use Rattle.lfs_calls.specs.declared.renaming.Move.{Move}
use Rattle.lfs_calls.specs.declared.renaming.Places.{Places}
use Rattle.lfs_model.specs.World.{Rows, child, IsTree}
use Rattle.lfs_calls.specs.Content.{IsDirectoryAt, Shows}
use Rattle.lfs_calls.specs.Makes.{IsRoom}
use Rattle.lfs_calls.specs.Names.{MovesName}
use Rattle.lfs_calls.specs.Removes.{IsChildless}
use Rattle.lfs_calls.specs.Renames.{ArePlaces, GoesTo, IsSwap, Leaves, WritesBlocks}
use Rattle.lfs_model.proofs.Children.{child-is}
use Rattle.lfs_model.proofs.MovedRows.{child-moved, child-moved_other}
use Rattle.lfs_model.proofs.Shrunk.{child-left_elsewhere, child-removed}
use Rattle.lfs_model.proofs.Trees.{not_in_itself}
use Rattle.lfs_types.proofs.Maps.{get-remove_same}
use Rattle.lfs_calls.proofs.Directories.{directory_at}
use Rattle.lfs_calls.proofs.ListedNames.{directory_still, found_gone, found_now, found_still}
use Rattle.lfs_calls.proofs.MovedPlaces.{above, at_file, f, g, hung, kind_old, small}
use Rattle.lfs_calls.proofs.MovedStore.{Shows-moved, same_files}
use Rattle.lfs_calls.proofs.StandLemmas.{stands_moved, stands_swapped}
use Rattle.lfs_calls.proofs.SwappedRows.{child-swapped, child-swapped_other, swapped, swapped_files}
use Rattle.lfs_calls.proofs.SwappedStore.{Shows-swapped}

some_same : {a b : ℕ} → Some a ≡ Some b → a ≡ b
some_same e = cc

module _ {c : Content} {w : World} (shows : Shows c w) (tree : IsTree w.rows) {move : Move} {old : List ℕ}
    (leaves : Leaves c w.rows move old) where
  abbrev p : ℕ
  p = move.removal.dir.number

  abbrev q : ℕ
  q = move.dir.number

  abbrev n : ℕ
  n = move.removal.file.number

  -- the moved row
  abbrev pub row : List ℕ → Row
  row new = record (hung shows tree leaves).row { parent = q; name = new }

  -- the directory of the new name
  into : IsDirectoryAt c q
  into = directory_at shows q move.dir.attrs leaves.shown leaves.directory

  -- and that of the old one
  out : IsDirectoryAt c p
  out = directory_at shows p move.removal.dir.attrs leaves.hangs.shown_dir leaves.hangs.directory

  -- where the row hangs
  hangs_is : child w.rows p old ≡ Some n
  hangs_is = leaves.hangs.hangs

  -- ---- to a place that was free

  module _ {new : List ℕ} (free : child w.rows q new ≡ None) {places : Places}
      (found : ArePlaces c move old new None places) (after : Content)
      (writes : WritesBlocks c after p places.taken q places.room None) where
    abbrev rows_free : Rows
    rows_free = map.insert w.rows n (row new)

    -- the store shows the world with the moved row
    pub shows_free : Shows after (record w { rows = map.insert w.rows n (row new) })
    shows_free =
        let d = f shows tree leaves in
        let e = g shows tree leaves found.taking.1 in
        Shows-moved c w shows tree n p old (hung shows tree leaves) d.file d.stored
        (kind_old shows tree leaves found.taking.1) places.taken found.taking.0
        (at_file shows tree leaves found.taking.1)
        q new free e.value e.is e.holds places.room found.room.0
        (subst (λ o. IsRoom (bytes_of_file o) n new places.room found.room.0) e.is found.room.1)
        after writes

    files_free : (d : ℕ) → option_map (λ (r : Row). r.file) (map.get rows_free d)
        ≡ option_map (λ (r : Row). r.file) (map.get w.rows d)
    files_free = same_files w n (hung shows tree leaves).row (hung shows tree leaves).there q new

    -- it lists the row under its new name, no more under the old one, and otherwise what it listed
    moves_free : MovesName c after p old q new n (places.room.off / 512)
    moves_free =
        let hangs = hung shows tree leaves in
        let moved : World = record w { rows = rows_free } in
        let none = child-removed w.rows n tree.unique p old hangs in
        record {
          keeps = λ d x found from to. found_still c after w moved shows shows_free d (files_free d) x found
              (child-moved_other w.rows n (row new) hangs.below tree.unique free d x (λ e f. to (sym e) (sym f))
              ∙ child-left_elsewhere w.rows n tree.unique p old hangs d x from);
          loses = found_now c after w moved shows shows_free p old None
              (directory_still c after w moved shows shows_free p (files_free p) out)
              (child-moved_other w.rows n (row new) hangs.below tree.unique free p old
              (λ e f. (let taken = ap (λ k. child w.rows k old) e
              ∙ hangs_is in let open_place = ap (child w.rows q) (sym f) ∙ free in absurd (cc)))
              ∙ none);
          gives = found_now c after w moved shows shows_free q new (Some n)
              (directory_still c after w moved shows shows_free q (files_free q) into)
              (child-moved w.rows n (row new) hangs.below tree.unique free);
          stands = stands_moved c after p q n places.taken places.room old new found.taking.0 found.room.0
              found.taking.1 found.room.1 writes;
        }

  -- ---- to that of another row

  module _ {new : List ℕ} (m : ℕ) (there : child w.rows q new ≡ Some m) (apart : m ≢ n) {places : Places}
      (found : ArePlaces c move old new (Some m) places) (after : Content)
      (writes : WritesBlocks c after p places.taken q places.room (Some m)) where
    abbrev rows_over : Rows
    rows_over = swapped w.rows tree.unique n m p q old new apart (hung shows tree leaves)
        (child-is w.rows q new m there)

    -- the store shows the world with the moved row in the other's place
    pub shows_over : Shows after (record w {
      rows =
          swapped w.rows tree.unique n m p q old new apart (hung shows tree leaves) (child-is w.rows q new m there);
    })
    shows_over =
        let d = f shows tree leaves in
        let e = g shows tree leaves found.taking.1 in
        Shows-swapped c w shows tree n p old (hung shows tree leaves) d.file d.stored
        (kind_old shows tree leaves found.taking.1) places.taken found.taking.0
        (at_file shows tree leaves found.taking.1)
        q new m (child-is w.rows q new m there) apart (above shows tree leaves) (small shows tree leaves)
        e.value e.is e.holds places.room found.room.0
        (subst (λ o. IsSwap (bytes_of_file o) new n places.room found.room.0) e.is found.room.1)
        after writes

    -- it lists the row under the other's name, no more under its old one, and otherwise what it listed
    moves_over : IsChildless w.rows m → MovesName c after p old q new n (places.room.off / 512)
    moves_over childless =
        let hangs = hung shows tree leaves in
        let other = child-is w.rows q new m there in
        let moved : World = record w { rows = rows_over } in
        let files = swapped_files w.rows tree.unique n m p q old new apart hangs other in
        let gone : map.get after m ≡ None = writes m ∙ get-remove_same _ m in
        let holds : q ≢ m = not_in_itself w.rows tree q new m other in
        let held : p ≢ m = λ e. (let none = childless old in let some = ap (λ k. child w.rows k old) (sym e)
        ∙ hangs_is in absurd (cc)) in
        record {
          keeps = λ d x found from to was. ⊎_elim
              (λ e. found_gone c after w shows d (λ y. ap (λ k. child w.rows k y) e ∙ childless y) (ap (map.get after) e
              ∙ gone) x found was)
              (λ left. found_still c after w moved shows shows_over d (files d left) x found
              (child-swapped_other w.rows tree.unique n m p q old new apart hangs other d x (λ e f. to (sym e) (sym f))
              ∙ child-left_elsewhere w.rows n tree.unique p old hangs d x from) was)
              (cases_eq d m);
          loses = found_now c after w moved shows shows_over p old None
              (directory_still c after w moved shows shows_over p (files p held) out)
              (child-swapped_other w.rows tree.unique n m p q old new apart hangs other p old
              (λ e f. apart (some_same (sym there ∙ ap (child w.rows q) f ∙ ap (λ k. child w.rows k old) e ∙ hangs_is)))
              ∙ child-removed w.rows n tree.unique p old hangs);
          gives = found_now c after w moved shows shows_over q new (Some n)
              (directory_still c after w moved shows shows_over q (files q holds) into)
              (child-swapped w.rows tree.unique n m p q old new apart hangs other);
          stands = stands_swapped c after p q n places.taken places.room old new found.taking.0 found.room.0
              found.taking.1 m found.room.1 writes;
        }

-- whatever has the new name
pub moves_row : {c : Content} {w : World} (shows : Shows c w) (tree : IsTree w.rows) {move : Move} {old new : List ℕ}
    (gone : Option ℕ) (goes : GoesTo c w.rows move old new gone) {places : Places}
    (found : ArePlaces c move old new gone places) (after : Content)
    → WritesBlocks c after move.removal.dir.number places.taken move.dir.number places.room gone
    → MovesName c after move.removal.dir.number old move.dir.number new move.removal.file.number (places.room.off / 512)
moves_row shows tree None goes found after writes =
    moves_free shows tree goes.leaves goes.there found after writes
moves_row shows tree (Some m) goes found after writes =
    moves_over shows tree goes.leaves m goes.there goes.gives_way.0 found after writes goes.gives_way.1
