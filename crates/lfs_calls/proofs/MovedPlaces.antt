-- In a Rename the room for the new name is looked for in its directory as it's once the old entry is taken away:
-- `seen_through` and `seen_listing`, for `find_places`, and `nowhere` and `has_room` for the answer DirectoryFull.
-- Nothing is written yet, so the directory's bytes are read through the block in hand if both directories are one
-- (`seen_same`), and else as they are (`seen_apart`); they list the rows without the moved one. The hard part is that
-- the two agree block by block (`left_in_one`): a block without the old entry is what `without` leaves; a Rename that
-- looked for room first would have another meaning of full.
use Rattle.std.proofs.Common.{◌≡◌, ◌≢◌, ℕ, ◌+◌, ◌*◌, ◌/◌, ◌^◌, ◌<◌, ◌==◌, List, [], ◌∷◌, length, take, drop, Option}
use Rattle.std.proofs.Common.{None, Some, sym, ap, subst, ◌∙◌, ⊎_elim, arith}
use Rattle.std.specs.Prelude.{IsSomeAnd}
use Rattle.std.specs.Bool.{then_some}
use Rattle.std.specs.Borrow.{Bor}
use Rattle.std.proofs.lemmas.Bool.{eqb-true, eqb-false, cond-true, cond-false, cases_Bool, cases_eq}
use Rattle.std.proofs.lemmas.List.Elements.{All-contains}
use Rattle.std.specs.FinMap as map
use Rattle.lfs_types.specs.Stored.{bytes_of, bytes_of_file}
use Rattle.lfs_types.specs.Splicing.{splice}
use Rattle.lfs_types.specs.Tree.{File, World, Content}
use Rattle.lfs_types.specs.declared.attrs.Kind.TheVariants.{Directory}
use Rattle.lfs_dirs.proofs.Changes.{without-absent, Contains-number_in, AreEntries-each}
use Rattle.lfs_dirs.specs.Directory.{IsEntry, number_in, used_of}
use Rattle.lfs_dirs.proofs.Laws.{used_of-block, used_of-append}
use Rattle.lfs_dirs.specs.Reading.{entries_of}
use Rattle.lfs_calls.specs.declared.directory.DirBlock.{DirBlock}
use Rattle.lfs_calls.specs.declared.renaming.Move.{Move}
use Rattle.lfs_model.specs.World.{child, IsChild, IsTree}
use Rattle.lfs_calls.specs.Content.{Shows, ListsRows, FitsNowhere, block_at, left_of, all_entries}
use Rattle.lfs_calls.specs.Makes.{IsRoom, StandsIn, with_block}
use Rattle.lfs_calls.specs.Removes.{IsTaking}
use Rattle.lfs_calls.specs.Renames.{HasNoRoom, IsNewPlace, Leaves, block_put, name_left}
use Rattle.lfs_model.proofs.Children.{child-answer, child-is}
use Rattle.lfs_calls.proofs.Directories.{dir_file, file_kind, file_bytes, bytes_length, bytes_listing}
use Rattle.lfs_calls.proofs.Listings.{absent_in_block}
use Rattle.lfs_model.proofs.MovedRows.{free_still}
use Rattle.lfs_calls.proofs.MovedStore.{block_there, block_others, taken_listed}
use Rattle.lfs_model.proofs.Shrunk.{child-removed, hangs_still, unique-shrunk}
use Rattle.lfs_types.proofs.Somewhere.{Some_and, some_and, is_some_and}
use Rattle.lfs_calls.proofs.StepLemmas.{ShownFile}
use Rattle.lfs_types.specs.declared.limits.TheConstants.{FILE_BYTES}
use Rattle.lfs_calls.proofs.WithBlock.{stood-here, stood-other, length-stood}

module _ {c : Content} {w : World} (shows : Shows c w) (tree : IsTree w.rows) {move : Move} {old : List ℕ}
    (goes : Leaves c w.rows move old) where
  abbrev p : ℕ
  p = move.removal.dir.number

  abbrev q : ℕ
  q = move.dir.number

  abbrev n : ℕ
  n = move.removal.file.number

  -- the file of the old directory
  abbrev pub f : ShownFile c p move.removal.dir.attrs
  f = dir_file shows p move.removal.dir.attrs goes.hangs.shown_dir goes.hangs.directory

  -- its bytes
  abbrev pub old_bytes : List ℕ
  old_bytes = bytes_of c p

  -- the bytes of the new directory
  abbrev pub new_bytes : List ℕ
  new_bytes = bytes_of c q

  -- the row hangs in the old one
  pub hung : IsChild w.rows p old n
  hung = child-is w.rows p old n goes.hangs.hangs

  old_listing : ListsRows w.rows p old_bytes
  old_listing = bytes_listing shows p move.removal.dir.attrs goes.hangs.shown_dir goes.hangs.directory

  -- and is listed there
  pub old_is_listed : number_in old (all_entries old_bytes) ≡ Some n
  old_is_listed = old_listing.names old ∙ goes.hangs.hangs

  -- the row's number is that of an entry
  is_entry : IsEntry (n, old)
  is_entry = All-contains IsEntry (all_entries old_bytes) (n, old)
      (AreEntries-each (all_entries old_bytes) old_listing.distinct)
      (Contains-number_in old n (all_entries old_bytes) old_is_listed)

  -- it isn't 0
  pub above : 0 < n
  above = is_entry.above

  -- and fits an entry
  pub small : n < 2 ^ 32
  small = is_entry.fits

  module _ {taken : DirBlock} {k : ℕ} (taking : IsTaking old_bytes old taken k) where
    -- the content with the old entry taken away
    abbrev pub without_old : Content
    without_old = block_put p taken c

    -- the bytes of the new directory after the old entry was taken away
    abbrev pub seen : List ℕ
    seen = bytes_of without_old q

    -- the block without the entry is one of the old directory's file
    pub at_file : IsTaking f.file.bytes old taken k
    at_file = subst (λ bs. IsTaking bs old taken k)
        (file_bytes shows p move.removal.dir.attrs goes.hangs.shown_dir goes.hangs.directory) taking

    -- which is a directory
    pub kind_old : f.file.kind ≡ Directory
    kind_old = file_kind shows p move.removal.dir.attrs goes.hangs.shown_dir goes.hangs.directory

    -- the block stands in its bytes
    pub stands : StandsIn old_bytes taken
    stands = record {
      aligned = omega (arith, taking.off);
      within = omega (arith, taking.off, taking.within);
      size = taking.block.size;
    }

    -- the new directory is stored still
    pub ready_new : IsSomeAnd (map.get without_old q) (λ g. g.kind ≡ Directory)
    ready_new = ⊎_elim
        (λ e. is_some_and (λ (g : File). g.kind ≡ Directory) (ap (map.get without_old) e
        ∙ block_there c p f.file f.stored kind_old taken) kind_old)
        (λ apart. is_some_and (λ (g : File). g.kind ≡ Directory)
        (block_others c p f.file f.stored kind_old taken q apart
        ∙ (dir_file shows q move.dir.attrs goes.shown goes.directory).stored)
        (file_kind shows q move.dir.attrs goes.shown goes.directory))
        (cases_eq q p)

    -- its file
    abbrev pub g : Some_and (map.get without_old q) (λ g. g.kind ≡ Directory)
    g = some_and (map.get without_old q) (λ g. g.kind ≡ Directory) ready_new

    -- its bytes list what hangs there without the row
    pub seen_listing : ListsRows (map.remove w.rows n) q seen
    seen_listing = subst (ListsRows (map.remove w.rows n) q) (ap bytes_of_file (sym g.is))
        (taken_listed c w shows tree n p old hung f.file f.stored kind_old taken k at_file q g.value g.is g.holds)

    -- in one directory
    seen_same : p ≡ q → splice new_bytes taken.off taken.block ≡ seen
    seen_same e = ap (λ m. splice (bytes_of c m) taken.off taken.block) (sym e)
        ∙ ap (λ bs. splice bs taken.off taken.block)
        (file_bytes shows p move.removal.dir.attrs goes.hangs.shown_dir goes.hangs.directory)
        ∙ ap bytes_of_file (sym (block_there c p f.file f.stored kind_old taken)) ∙ ap (bytes_of without_old) e

    -- in two
    seen_apart : p ≢ q → new_bytes ≡ seen
    seen_apart apart = ap bytes_of_file (sym (block_others c p f.file f.stored kind_old taken q (λ e. apart (sym e))))

    -- they are read through the block
    pub seen_is : (b : Bor DirBlock) → b.now ≡ taken → with_block new_bytes (then_some (p == q) b) ≡ seen
    seen_is b is = ⊎_elim
        (λ t. ap (λ here. with_block new_bytes (then_some here b)) t
        ∙ ap (λ (r : DirBlock). splice new_bytes r.off r.block) is ∙ seen_same (eqb-true p q t))
        (λ t. ap (λ here. with_block new_bytes (then_some here b)) t ∙ seen_apart (eqb-false p q t))
        (cases_Bool (p == q))

    -- as the store has them when the room is sought
    pub seen_through : (now : Content) → now ≡ c → (o : Option (Bor DirBlock)) (b : Bor DirBlock) → b.now ≡ taken → o
        ≡ then_some (p == q) b → with_block (bytes_of now q) o ≡ seen
    seen_through now same o b is chosen = ap (λ x. with_block (bytes_of x q) o) same ∙ ap (with_block new_bytes) chosen
        ∙ seen_is b is

    -- the new name isn't among the listed ones
    pub seen_free : (new : List ℕ) → child w.rows q new ≡ None → number_in new (all_entries seen) ≡ None
    seen_free new free = seen_listing.names new
        ∙ free_still w.rows n (record hung.row { parent = q; name = new }) hung.below tree.unique free

    -- that of another row is
    pub seen_there : (new : List ℕ) (m : ℕ) → child w.rows q new ≡ Some m → m ≢ n → number_in new (all_entries seen)
        ≡ Some m
    seen_there new m is apart = seen_listing.names new
        ∙ child-answer _ (unique-shrunk w.rows n tree.unique) q new (Some m)
        (hangs_still w.rows n q new m apart (child-is w.rows q new m is))

    -- they are as many as before
    pub seen_length : length seen ≡ length new_bytes
    seen_length = ⊎_elim
        (λ e. ap (λ (bs : List ℕ). length bs) (sym (seen_same e))
        ∙ length-stood new_bytes taken (subst (λ m. StandsIn (bytes_of c m) taken) e stands)
        (bytes_length shows q move.dir.attrs goes.shown goes.directory).1)
        (λ apart. ap (λ (bs : List ℕ). length bs) (sym (seen_apart apart)))
        (cases_eq p q)

    -- a block of the one directory, without the old name
    left_in_one : p ≡ q → (j : ℕ) → j < length old_bytes / 512 → left_of (Some old) (entries_of (block_at old_bytes j))
        ≡ entries_of (block_at seen j)
    left_in_one e j within =
        let here : splice old_bytes taken.off taken.block
        ≡ seen = ap (λ m. splice (bytes_of c m) taken.off taken.block) e ∙ seen_same e in
        ⊎_elim
        (λ same.
        let block : block_at seen k ≡ taken.block = ap (λ bs. block_at bs k) (sym here)
        ∙ ap (λ off. take 512 (drop off (splice old_bytes taken.off taken.block))) (sym taking.off)
        ∙ stood-here old_bytes taken stands in
        ap (λ i. left_of (Some old) (entries_of (block_at old_bytes i))) same ∙ sym taking.takes
        ∙ ap entries_of (sym block) ∙ ap (λ i. entries_of (block_at seen i)) (sym same))
        (λ apart.
        let other : 512 * j ≢ taken.off = λ x. apart (omega (arith, x, taking.off)) in
        let block : block_at seen j ≡ block_at old_bytes j = ap (λ bs. block_at bs j) (sym here)
        ∙ stood-other old_bytes taken stands (512 * j) (omega arith) other in
        let gone : number_in old (all_entries seen) ≡ None = seen_listing.names old
        ∙ ap (λ m. child (map.remove w.rows n) m old) (sym e) ∙ child-removed w.rows n tree.unique p old hung in
        let absent = absent_in_block old seen j (omega (arith, seen_length, ap (λ m. length (bytes_of c m)) e)) gone in
        without-absent old (entries_of (block_at old_bytes j)) (ap (λ b. number_in old (entries_of b)) (sym block)
        ∙ absent) ∙ ap entries_of (sym block))
        (cases_eq j k)

    entries_left : (j : ℕ) → j < length new_bytes / 512
        → left_of (name_left move old) (entries_of (block_at new_bytes j)) ≡ entries_of (block_at seen j)
    entries_left j within = ⊎_elim
        (λ t.
        let e = eqb-true p q t in
        ap (λ o. left_of o (entries_of (block_at new_bytes j))) (cond-true (p == q) (Some old) None t)
        ∙ ap (λ m. left_of (Some old) (entries_of (block_at (bytes_of c m) j))) (sym e)
        ∙ left_in_one e j (subst (λ m. j < length (bytes_of c m) / 512) (sym e) within))
        (λ t. ap (λ o. left_of o (entries_of (block_at new_bytes j))) (cond-false (p == q) (Some old) None t)
        ∙ ap (λ bs. entries_of (block_at bs j)) (seen_apart (eqb-false p q t)))
        (cases_Bool (p == q))

    -- where the new name fits nowhere in what is seen, it fits nowhere without the old one
    pub nowhere : {new : List ℕ} → FitsNowhere seen None new → FitsNowhere new_bytes (name_left move old) new
    nowhere full =
        let whole : length new_bytes ≡ FILE_BYTES = sym seen_length ∙ full.whole in
        record {
          whole = whole;
          full = λ j below.
              let left = ap used_of (entries_left j (omega (arith, whole))) in
              let over = full.full j below in
              omega (arith, left, over);
        }

    -- where there is room for it, the directory isn't full
    somewhere : {new : List ℕ} {room : DirBlock} {j : ℕ} → IsRoom seen n new room j
        → FitsNowhere new_bytes (name_left move old) new → ⊥
    somewhere {new} {room} {j} fits full =
        let below = fits.fits in
        let left = ap used_of (entries_left j (omega (arith, full.whole))) in
        let over = full.full j below in
        let used = used_of-block room.block (entries_of room.block) fits.block in
        let sum : used_of (entries_of room.block) ≡ used_of (entries_of (block_at seen j))
        + used_of ((n, new) ∷ []) = ap used_of fits.adds
        ∙ used_of-append (entries_of (block_at seen j)) ((n, new) ∷ []) in
        absurd (omega (arith, left, over, used, sum))

    -- where it has a place, it doesn't lack room
    pub has_room : (gone : Option ℕ) (new : List ℕ) (room : DirBlock) (j : ℕ) → IsNewPlace seen n new gone room j
        → HasNoRoom c move old new gone → ⊥
    has_room None new room j fits full = somewhere fits full
    has_room (Some gone) new room j fits none = none
