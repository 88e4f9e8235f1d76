-- A row taken away leaves a store that shows the tree without it: `shows_without` for RowLemmas, `can_take`,
-- `takes_file` and `loses_name` for `take_row`. The store is asked for the block without the entry and then for the
-- removal, of two numbers that differ as no row hangs in itself (`unlike`); the block lists all but the name
-- (ListingsTaken). Nothing hung in the row, so names found elsewhere are found still; both changes are asked for as
-- one, as between them the store shows no tree.
use Rattle.std.proofs.Common.{◌≡◌, ◌≢◌, ℕ, ◌/◌, List, [], ◌∷◌, length, None, Some, refl, sym, ap, subst, ◌∙◌, ⊎_elim, arith}
use Rattle.std.proofs.lemmas.Bool.{cases_eq}
use Rattle.std.specs.Prelude.{IsSome, option_map}
use Rattle.std.specs.Borrow.{Bor}
use Rattle.std.specs.FinMap as map
use Rattle.lfs_types.specs.Changes.{IsLength, CanApply, changed_at}
use Rattle.lfs_types.specs.Splicing.{splice}
use Rattle.lfs_types.specs.Stored.{bytes_of}
use Rattle.lfs_types.specs.Tree.{File, Row, World, Content}
use Rattle.lfs_types.specs.declared.attrs.Kind.TheVariants.{Directory}
use Rattle.lfs_types.specs.declared.store.Change.TheVariants.{Put, Remove}
use Rattle.lfs_dirs.specs.Directory.{number_in}
use Rattle.lfs_calls.specs.declared.directory.DirBlock.{DirBlock}
use Rattle.lfs_calls.specs.declared.removing.Removal.{Removal}
use Rattle.lfs_model.specs.World.{IsChild, IsTree, child}
use Rattle.lfs_model.specs.Effects.{without_row}
use Rattle.lfs_calls.specs.Content.{Shows, all_entries}
use Rattle.lfs_calls.specs.Names.{FindsNew}
use Rattle.lfs_calls.specs.Removes.{HangsAs, IsChildless, IsTaking, TakesFile}
use Rattle.lfs_model.proofs.Children.{child-is}
use Rattle.lfs_model.proofs.Shrunk.{child-left_elsewhere, child-removed}
use Rattle.lfs_calls.proofs.ListedNames.{directory_still, found_gone, found_now, found_still}
use Rattle.lfs_calls.proofs.Directories.{dir_file, directory_at, file_kind, file_length, file_bytes}
use Rattle.lfs_calls.proofs.ListingsTaken.{taken_length, ListsRows-taken}
use Rattle.lfs_types.proofs.Maps.{get-insert_same, get-insert_other, get-remove_same, get-remove_other}
use Rattle.lfs_calls.proofs.ShrunkStore.{Shows-shrunk}
use Rattle.lfs_types.proofs.Somewhere.{present, is_some_and}
use Rattle.lfs_calls.proofs.StandLemmas.{stands_taken}
use Rattle.lfs_calls.proofs.StepLemmas.{ShownFile, shown_file, child_listed}
use Rattle.lfs_model.proofs.Trees.{not_in_itself}

module _ (c : Content) (w : World) (shows : Shows c w) (tree : IsTree w.rows) (removal : Removal) (name : List ℕ)
    (is : HangsAs c w.rows removal name) where
  abbrev number : ℕ
  number = removal.file.number

  abbrev dir : ℕ
  dir = removal.dir.number

  abbrev f : ShownFile c dir removal.dir.attrs
  f = dir_file shows dir removal.dir.attrs is.shown_dir is.directory

  kind : f.file.kind ≡ Directory
  kind = file_kind shows dir removal.dir.attrs is.shown_dir is.directory

  size : IsLength Directory (length f.file.bytes)
  size = file_length shows dir removal.dir.attrs is.shown_dir is.directory

  -- the directory lists the name
  pub taking_listed : IsSome (number_in name (all_entries (bytes_of c dir)))
  taking_listed = present (child_listed c w shows dir removal.dir.attrs is.shown_dir is.directory name ∙ is.hangs)

  hung : IsChild w.rows dir name number
  hung = child-is w.rows dir name number is.hangs

  unlike : dir ≢ number
  unlike = not_in_itself w.rows tree dir name number hung

  module _ (room : DirBlock) (k : ℕ) (taking : IsTaking (bytes_of c dir) name room k) where
    at_file : IsTaking f.file.bytes name room k
    at_file = subst (λ bs. IsTaking bs name room k)
        (file_bytes shows dir removal.dir.attrs is.shown_dir is.directory) taking

    abbrev put_file : File
    put_file = record f.file { bytes = splice f.file.bytes room.off room.block }

    put_length : IsLength Directory (length put_file.bytes)
    put_length = subst (IsLength Directory) (sym (taken_length f.file.bytes name room k at_file)) size

    -- the content with the block written
    abbrev pub put_over_dir : List ℕ → Content
    put_over_dir block = changed_at (map.get c dir) dir (λ x. record x { bytes = splice x.bytes room.off block }) c

    after_put : (block : List ℕ) → block ≡ room.block → put_over_dir block ≡ map.insert c dir put_file
    after_put block same = ap (λ o. changed_at o dir (λ x. record x { bytes = splice x.bytes room.off block }) c)
        f.stored
        ∙ ap (λ bs. map.insert c dir (record f.file { bytes = splice f.file.bytes room.off bs })) same

    -- a store may be asked for the block and the removal
    pub can_take : (numbers : ℕ) (pointed : Bor (List ℕ)) → pointed.now ≡ room.block
        → CanApply numbers (Put dir room.off pointed ∷ Remove number ∷ []) c
    can_take numbers pointed same = record {
      few = omega arith;
      few_puts = omega arith;
      few_lengths = omega arith;
      few_bytes = let n = ap (λ (bs : List ℕ). length bs) same in omega (arith, taking.block.size);
      each = (
        is_some_and _ f.stored (subst (λ bs. IsLength f.file.kind (length (splice f.file.bytes room.off bs))) (sym same)
            (subst (λ k. IsLength k (length put_file.bytes)) (sym kind) put_length)),
        (
          present (ap (λ x. map.get x number) (after_put pointed.now same)
              ∙ get-insert_other c dir put_file number (λ e. unlike (sym e))
              ∙ (shown_file c number removal.file.attrs is.shown_file).stored),
          tt,
        ),
      );
    }

    -- it takes the file away and writes the block, and is otherwise what it was
    pub takes_file : (new : Content) → new ≡ map.remove (put_over_dir room.block) number
        → TakesFile c new number dir room.off room.block
    takes_file new made =
        let made_by : new ≡ map.remove (map.insert c dir put_file) number = made
        ∙ ap (λ x. map.remove x number) (after_put room.block refl) in
        record {
          gone = ap (λ x. map.get x number) made_by ∙ get-remove_same (map.insert c dir put_file) number;
          listed = λ g e.
              let one : f.file ≡ g = let there = f.stored in cc in
              subst (λ (x : File). map.get new dir ≡ Some (record x { bytes = splice x.bytes room.off room.block })) one
              (ap (λ x. map.get x dir) made_by ∙ get-remove_other (map.insert c dir put_file) number dir unlike
              ∙ get-insert_same c dir put_file);
          others = λ q a b. ap (λ x. map.get x q) made_by ∙ get-remove_other (map.insert c dir put_file) number q a
              ∙ get-insert_other c dir put_file q b;
        }

    -- the store shows the tree without the row
    pub shows_without : (after : Content) → TakesFile c after number dir room.off room.block
        → Shows after (without_row number w)
    shows_without after takes =
        Shows-shrunk c after w shows tree number dir name hung f.file put_file.bytes f.stored kind unlike takes.gone
        (takes.listed f.file f.stored) takes.others put_length
        (ListsRows-taken w.rows tree.unique dir number name hung f.file.bytes
        (shows.listings dir f.file f.stored kind) size.1 room k at_file)

    -- its directories list what they listed, but for the name, under which none is found
    pub loses_name : IsChildless w.rows number → (after : Content) → TakesFile c after number dir room.off room.block
        → FindsNew c after dir name None (room.off / 512)
    loses_name childless after takes =
        let shown = shows_without after takes in
        let left : World = without_row number w in
        let files : (d : ℕ) → d ≢ number → option_map (λ (r : Row). r.file) (map.get left.rows d)
        ≡ option_map (λ (r : Row). r.file) (map.get w.rows d) =
        λ d other. ap (option_map (λ (r : Row). r.file)) (get-remove_other w.rows number d other) in
        record {
          keeps = λ d x found apart was. ⊎_elim
              (λ e. found_gone c after w shows d (λ q. ap (λ k. child w.rows k q) e ∙ childless q) (ap (map.get after) e
              ∙ takes.gone) x found was)
              (λ other. found_still c after w left shows shown d (files d other) x found
              (child-left_elsewhere w.rows number tree.unique dir name hung d x apart) was)
              (cases_eq d number);
          finds = found_now c after w left shows shown dir name None
              (directory_still c after w left shows shown dir (files dir unlike)
              (directory_at shows dir removal.dir.attrs is.shown_dir is.directory))
              (child-removed w.rows number tree.unique dir name hung);
          stands = stands_taken c after number dir name room k f.file f.stored taking takes;
        }
