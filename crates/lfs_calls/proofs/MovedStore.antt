-- A store from one of whose directories a row's entry was taken, and in another put, shows the world with the row
-- moved: `Shows-moved`, for MovedNames; its two halves serve SwappedStore too. A directory's bytes aren't visible, so
-- files seen stay the same (`seen_same`); lengths and listings hold for the written directory by ListsRows-taken and
-- ListsRows-added, and for all others as nothing hangs in them anew (`listed_after`). Between the two blocks the store
-- shows no world, only the listings of the rows without the moved one (`taken_listed`), so the proof carries sizes and
-- listings apart; it doesn't ask whether the directories differ.
use Rattle.std.proofs.Common.{◌≡◌, ◌≢◌, ℕ, ◌*◌, ◌≤◌, List, [], length, None, Some, sym, ap, subst, ◌∙◌, ⊎_elim, arith}
use Rattle.std.proofs.lemmas.Bool.{cases_eq}
use Rattle.std.specs.Prelude.{option_map}
use Rattle.std.specs.FinMap as map
use Rattle.lfs_types.specs.Changes.{IsLength, changed_at}
use Rattle.lfs_types.specs.Splicing.{splice}
use Rattle.lfs_types.specs.Tree.{File, Row, World, Content}
use Rattle.lfs_types.specs.declared.attrs.Kind.TheVariants.{Directory}
use Rattle.lfs_dirs.proofs.Changes.{AreEntries-middle}
use Rattle.lfs_dirs.specs.Directory.{AreEntries, IsEntry}
use Rattle.lfs_dirs.specs.Reading.{entries_of}
use Rattle.lfs_calls.specs.declared.directory.DirBlock.{DirBlock}
use Rattle.lfs_model.specs.World.{Rows, child, IsChild, IsTree}
use Rattle.lfs_calls.specs.Content.{visible, Shows, ListsRows}
use Rattle.lfs_calls.specs.Makes.{IsRoom}
use Rattle.lfs_calls.specs.Removes.{IsTaking}
use Rattle.lfs_calls.specs.Renames.{block_put}
use Rattle.lfs_calls.proofs.Listings.{ListsRows-added}
use Rattle.lfs_calls.proofs.ListingsTaken.{ListsRows-taken, taken_length}
use Rattle.lfs_types.proofs.Maps.{get-insert_same, get-insert_other, each_value}
use Rattle.lfs_model.proofs.MovedRows.{free_still, child-moved, child-moved_other}
use Rattle.lfs_types.proofs.Pieces.{put_over, splice-put_over, length-put_over}
use Rattle.lfs_model.proofs.Shrunk.{child-left_elsewhere}
use Rattle.lfs_calls.proofs.Visible.{visible-directory}

-- each file has a length that its kind may have
abbrev pub AreSized : Content → Type 0
AreSized c = (n : ℕ) (f : File) → map.get c n ≡ Some f → IsLength f.kind (length f.bytes)

-- the bytes of each directory list the rows that hang in it
abbrev pub AreListed : Content → Rows → Type 0
AreListed c rows = (n : ℕ) (f : File) → map.get c n ≡ Some f → f.kind ≡ Directory → ListsRows rows n f.bytes

-- a row that hangs elsewhere has the file that it had, and so has each other
pub same_files : (w : World) (n : ℕ) (row : Row) → map.get w.rows n ≡ Some row → (parent : ℕ) (name : List ℕ) (m : ℕ)
    → option_map (λ (r : Row). r.file) (map.get (map.insert w.rows n (record row { parent = parent; name = name })) m)
    ≡ option_map (λ (r : Row). r.file) (map.get w.rows m)
same_files w n row there parent name m =
    let moved : Row = record row { parent = parent; name = name } in
    ⊎_elim
    (λ e. ap (λ i. option_map (λ (r : Row). r.file) (map.get (map.insert w.rows n moved) i)) e
    ∙ ap (option_map (λ (r : Row). r.file)) (get-insert_same w.rows n moved)
    ∙ sym (ap (option_map (λ (r : Row). r.file)) (ap (map.get w.rows) e ∙ there)))
    (λ apart. ap (option_map (λ (r : Row). r.file)) (get-insert_other w.rows n moved m apart))
    (cases_eq m n)

-- ---- a block of a directory is written

module _ (c : Content) (d : ℕ) (f : File) (stored : map.get c d ≡ Some f) (directory : f.kind ≡ Directory)
    (room : DirBlock) where
  abbrev put_file : File
  put_file = record f { bytes = splice f.bytes room.off room.block }

  block_put-is : block_put d room c ≡ map.insert c d put_file
  block_put-is = ap (λ o. changed_at o d (λ (x : File). record x { bytes = splice x.bytes room.off room.block }) c)
      stored

  -- the directory has the block
  pub block_there : map.get (block_put d room c) d ≡ Some put_file
  block_there = ap (λ x. map.get x d) block_put-is ∙ get-insert_same c d put_file

  -- the other files stay
  pub block_others : (q : ℕ) → q ≢ d → map.get (block_put d room c) q ≡ map.get c q
  block_others q apart = ap (λ x. map.get x q) block_put-is ∙ get-insert_other c d put_file q apart

  -- users see the same files
  pub seen_same : (q : ℕ) → option_map visible (map.get (block_put d room c) q) ≡ option_map visible (map.get c q)
  seen_same q = ⊎_elim
      (λ e. ap (λ m. option_map visible (map.get (block_put d room c) m)) e ∙ ap (option_map visible) block_there
      ∙ ap Some (visible-directory f _ directory)
      ∙ sym (ap (option_map visible) stored) ∙ sym (ap (λ m. option_map visible (map.get c m)) e))
      (λ apart. ap (option_map visible) (block_others q apart))
      (cases_eq q d)

  after_block : (P : ℕ → File → Type 0) → P d put_file → ((q : ℕ) (g : File) → q ≢ d → map.get c q ≡ Some g → P q g)
      → (q : ℕ) (g : File) → map.get (block_put d room c) q ≡ Some g → P q g
  after_block = each_value c (block_put d room c) d put_file block_there block_others

  -- each file has a length that it may have
  pub sized_after : AreSized c → IsLength Directory (length (splice f.bytes room.off room.block))
      → AreSized (block_put d room c)
  sized_after sized long = after_block (λ q g. IsLength g.kind (length g.bytes))
      (subst (λ k. IsLength k (length (splice f.bytes room.off room.block))) (sym directory) long)
      (λ q g apart. sized q g)

  -- each directory lists its rows
  pub listed_after : (rows changed : Rows) → AreListed c rows
      → ((q : ℕ) → q ≢ d → (name : List ℕ) → child changed q name ≡ child rows q name)
      → ListsRows changed d (splice f.bytes room.off room.block) → AreListed (block_put d room c) changed
  listed_after rows changed listed others here = after_block (λ q g. g.kind ≡ Directory → ListsRows changed q g.bytes)
      (λ _. here)
      (λ q g apart e kind.
      let was = listed q g e kind in
      record {
        blocks = was.blocks;
        distinct = was.distinct;
        names = λ name. was.names name
            ∙ sym (others q apart name);
      })

-- ---- an entry is taken away

module _ (c : Content) (w : World) (shows : Shows c w) (tree : IsTree w.rows) (n p : ℕ) (old : List ℕ)
    (hangs : IsChild w.rows p old n)
    (f : File) (stored : map.get c p ≡ Some f) (directory : f.kind ≡ Directory) (taken : DirBlock) (k : ℕ)
    (taking : IsTaking f.bytes old taken k) where
  listing : ListsRows w.rows p f.bytes
  listing = shows.listings p f stored directory

  long : IsLength Directory (length f.bytes)
  long = subst (λ x. IsLength x (length f.bytes)) directory (shows.sizes p f stored)

  -- each file has a length that it may have
  pub taken_sized : AreSized (block_put p taken c)
  taken_sized = sized_after c p f stored directory taken shows.sizes
      (subst (IsLength Directory) (sym (taken_length f.bytes old taken k taking)) long)

  -- each directory lists the rows that are left
  pub taken_listed : AreListed (block_put p taken c) (map.remove w.rows n)
  taken_listed = listed_after c p f stored directory taken w.rows (map.remove w.rows n) shows.listings
      (λ q apart name. child-left_elsewhere w.rows n tree.unique p old hangs q name (λ e _. apart e))
      (ListsRows-taken w.rows tree.unique p n old hangs f.bytes listing long.1 taken k taking)

  -- ---- and put into another directory, or into the same

  module _ (q : ℕ) (name : List ℕ) (free : child w.rows q name ≡ None)
      (g : File) (stored_new : map.get (block_put p taken c) q ≡ Some g) (directory_new : g.kind ≡ Directory)
      (room : DirBlock) (j : ℕ) (fits : IsRoom g.bytes n name room j) where
    -- the content after both blocks
    abbrev pub c_after : Content
    c_after = block_put q room (block_put p taken c)

    abbrev row : Row
    row = record hangs.row { parent = q; name = name }

    -- the rows with the moved one
    abbrev pub rows_moved : Rows
    rows_moved = map.insert w.rows n row

    size : length room.block ≡ 512
    size = fits.block.size

    long_new : IsLength Directory (length g.bytes)
    long_new = subst (λ x. IsLength x (length g.bytes)) directory_new (taken_sized q g stored_new)

    within : room.off ≤ length g.bytes
    within = omega (arith, fits.off, fits.within, long_new.1)

    put : splice g.bytes room.off room.block ≡ put_over g.bytes (512 * j) room.block
    put = splice-put_over g.bytes room.off room.block (omega (arith, size)) within
        ∙ ap (λ off. put_over g.bytes off room.block) fits.off

    long_after : IsLength Directory (length (splice g.bytes room.off room.block))
    long_after =
        let count = ap (λ (bs : List ℕ). length bs)
        (splice-put_over g.bytes room.off room.block (omega (arith, size)) within)
        ∙ length-put_over g.bytes room.off room.block within in
        let whole = long_new.1 in
        let bounded = long_new.0 in
        (omega (arith, count, size, fits.off, fits.fits), omega (arith, count, size, fits.off))

    is_entry : IsEntry (n, name)
    is_entry = (AreEntries-middle (entries_of _) (n, name) [] (subst AreEntries fits.adds fits.block.entries)).0

    listing_after : ListsRows rows_moved q (splice g.bytes room.off room.block)
    listing_after = subst (ListsRows rows_moved q) (sym put)
        (ListsRows-added g.bytes j room.block size long_new.1 fits.within (map.remove w.rows n) rows_moved q n name
        (taken_listed q g stored_new directory_new) fits.block fits.adds is_entry
        (free_still w.rows n row hangs.below tree.unique free)
        (child-moved w.rows n row hangs.below tree.unique free)
        (λ x other. child-moved_other w.rows n row hangs.below tree.unique free q x (λ _ same. other (sym same))))

    moved_listed : AreListed c_after rows_moved
    moved_listed = listed_after (block_put p taken c) q g stored_new directory_new room
        (map.remove w.rows n) rows_moved taken_listed
        (λ m apart x. child-moved_other w.rows n row hangs.below tree.unique free m x (λ e _. apart (sym e)))
        listing_after

    moved_sized : AreSized c_after
    moved_sized = sized_after (block_put p taken c) q g stored_new directory_new room taken_sized long_after

    -- the store shows the world with the moved row
    pub Shows-moved : (after : Content) → ((m : ℕ) → map.get after m ≡ map.get c_after m)
        → Shows after (record w { rows = rows_moved })
    Shows-moved after same = record {
      files = λ m. ap (option_map visible) (same m)
          ∙ seen_same (block_put p taken c) q g stored_new directory_new room m
          ∙ seen_same c p f stored directory taken m
          ∙ shows.files m ∙ sym (same_files w n hangs.row hangs.there q name m);
      sizes = λ m x e. moved_sized m x (sym (same m) ∙ e);
      listings = λ m x e. moved_listed m x (sym (same m) ∙ e);
    }
