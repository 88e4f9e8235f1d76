-- A new row's file and its name's block leave a store that shows the tree with that row: `shows_after` and
-- `tree_after`, with `gives_name` for the name cache and `enters_first` for the order of entries, all for `make`. The
-- number is the least free one in store and tree alike, so `effect` adds that same row (`world_is`); the name was free,
-- so one entry more in one block lists just one row more (ListsRows-added of Listings). The hard part is a full
-- directory (`crowded_in`, `roomy`): each of its blocks lacks room for a name of at most 255 bytes, hence has at least
-- one entry, so another block size or entry size breaks these sums.
use Rattle.std.proofs.Common.{◌≡◌, ◌≢◌, ℕ, ◌+◌, ◌*◌, ◌/◌, ◌%◌, ◌<◌, ◌≤◌, List, [], ◌∷◌, length, Option, None, Some, refl}
use Rattle.std.proofs.Common.{sym, ap, subst, ◌∙◌, ⊎_elim, arith}
use Rattle.std.proofs.lemmas.Bool.{cases_eq}
use Rattle.std.specs.FinMap as map
use Rattle.std.specs.Prelude.{option_map}
use Rattle.lfs_types.specs.Caller.{Caller}
use Rattle.lfs_types.specs.Changes.{IsLength}
use Rattle.lfs_types.specs.Splicing.{splice}
use Rattle.lfs_types.specs.Stored.{bytes_of, bytes_of_file, IsLeastFree}
use Rattle.lfs_types.specs.Tree.{File, Row, World, Content, root}
use Rattle.lfs_types.specs.declared.attrs.Attrs.{Attrs}
use Rattle.lfs_types.specs.declared.attrs.Kind.{Kind}
use Rattle.lfs_types.specs.declared.attrs.Kind.TheVariants.{Directory}
use Rattle.lfs_dirs.proofs.Changes.{AreEntries-middle}
use Rattle.lfs_dirs.specs.Directory.{AreEntries, IsEntry, number_in, used_of}
use Rattle.lfs_dirs.proofs.Laws.{used_of-block, used_of-append}
use Rattle.lfs_dirs.specs.Reading.{entries_of}
use Rattle.lfs_calls.specs.declared.directory.DirBlock.{DirBlock}
use Rattle.lfs_calls.specs.declared.walking.Reached.{Reached}
use Rattle.lfs_model.specs.World.{children, IsTree, file_at}
use Rattle.lfs_model.specs.Rules.{front, last, reached}
use Rattle.lfs_model.specs.Effects.{new_file, with_new, least_unused}
use Rattle.lfs_calls.specs.Content.{Shows, ListsRows, FitsNowhere, KeepsOthers, block_at, all_entries}
use Rattle.lfs_calls.specs.Makes.{CanEnter, EntersFirst, IsBlockOf, IsParent, IsRoom, ListsFirst, MakesFile}
use Rattle.lfs_calls.specs.Names.{FindsNew, IsFound}
use Rattle.lfs_model.specs.Steps.{AllUsed}
use Rattle.lfs_model.proofs.Children.{child-new, child-new_other}
use Rattle.lfs_calls.proofs.Crowded.{crowded}
use Rattle.lfs_calls.proofs.Directories.{dir_file, dir_stored, file_kind, file_length, file_bytes, directory_at}
use Rattle.lfs_calls.proofs.Directories.{size_bounded, bytes_listing}
use Rattle.lfs_model.proofs.Grown.{IsTree-grown}
use Rattle.lfs_calls.proofs.GrownStore.{Shows-grown}
use Rattle.lfs_calls.proofs.ListedNames.{directory_still, found_now, found_still}
use Rattle.lfs_calls.proofs.Listings.{ListsRows-added, absent_at_first}
use Rattle.lfs_calls.proofs.MakeLemmas.{grown_length, least_unused-is}
use Rattle.lfs_types.proofs.Maps.{get-insert_other}
use Rattle.lfs_types.proofs.Pieces.{put_over, splice-put_over}
use Rattle.lfs_types.proofs.Somewhere.{present, some_and, is_some_and, there_of}
use Rattle.lfs_calls.proofs.StandLemmas.{stands_made}
use Rattle.lfs_calls.proofs.StepLemmas.{ShownFile, attrs_reads, child_listed}
use Rattle.lfs_types.specs.declared.limits.TheConstants.{FILE_BLOCKS, FILE_BYTES}
use Rattle.lfs_calls.proofs.Visible.{Stored, shown_of, unused_of}

-- a directory in which a new name may be put
module _ {c : Content} {w : World} (shows : Shows c w) {path : List (List ℕ)} {dir : Reached}
    (is : IsParent c w.rows path dir) where
  abbrev f : ShownFile c dir.number dir.attrs
  f = dir_file shows dir.number dir.attrs is.shown is.directory

  dir_kind : f.file.kind ≡ Directory
  dir_kind = file_kind shows dir.number dir.attrs is.shown is.directory

  dir_length : IsLength Directory (length f.file.bytes)
  dir_length = file_length shows dir.number dir.attrs is.shown is.directory

  dir_bytes : bytes_of c dir.number ≡ f.file.bytes
  dir_bytes = file_bytes shows dir.number dir.attrs is.shown is.directory

  -- the directory doesn't list the name
  pub dir_free : number_in (last path) (all_entries (bytes_of c dir.number)) ≡ None
  dir_free = child_listed c w shows dir.number dir.attrs is.shown is.directory (last path) ∙ is.free

  -- the name may get an entry
  pub can_enter : (number : ℕ) → 0 < number → (name : List ℕ) → name ≡ last path
      → CanEnter c dir.number dir.attrs.size None name number
  can_enter number above name same = record {
    stored = dir_stored shows dir.number dir.attrs is.shown is.directory;
    bounded = size_bounded shows dir.number dir.attrs is.shown is.directory;
    stands = tt;
    blocks = (bytes_listing shows dir.number dir.attrs is.shown is.directory).blocks;
    above = above;
    free = ap (λ n. number_in n (all_entries (bytes_of c dir.number))) same ∙ dir_free;
  }

  -- a new row of an unused number
  module _ (caller : Caller) (tree : IsTree w.rows) (numbers number : ℕ) (least : IsLeastFree numbers c (Some number))
      (kind : Kind) (mode : ℕ) where
    absent : map.get w.rows number ≡ None
    absent = unused_of c w shows number least.2

    below : number ≡ root → ⊥
    below e = absurd (omega (arith, least.0))

    d : Stored w dir.number f.file
    d = shown_of c w shows dir.number f.file f.stored

    abbrev new_row : Row
    new_row = record { parent = dir.number; name = last path; file = new_file caller kind dir.attrs.gid mode }

    unlike : dir.number ≢ number
    unlike e = let there = f.stored in let none : map.get c dir.number
        ≡ None = subst (λ q. map.get c q ≡ None) (sym e) least.2 in absurd (cc)

    number_is : least_unused w.rows numbers 4 ≡ number
    number_is = least_unused-is w.rows numbers 4 number least.0 (omega (arith, least.1)) absent
        (λ k low high. let g = there_of (map.get c k) (least.3 k low high) in
        present (shown_of c w shows k g.value g.is).there)

    gid_is : (file_at (map.get w.rows (reached w.rows root (front path)))).gid ≡ dir.attrs.gid
    gid_is = ap (λ m. (file_at (map.get w.rows m)).gid) is.object
        ∙ ap (λ (x : Attrs). x.gid) (attrs_reads c w shows dir.number dir.attrs is.shown)

    -- the world with the new row
    world_is : with_new numbers w caller path kind mode ≡ record w { rows = map.insert w.rows number new_row }
    world_is =
        ap (λ n. record w {
          rows = map.insert w.rows n
              (record {
                parent = reached w.rows root (front path);
                name = last path;
                file = new_file caller kind (file_at (map.get w.rows (reached w.rows root (front path)))).gid mode;
              });
        })
        number_is
        ∙ ap (λ g. record w {
          rows = map.insert w.rows number
              (record {
                parent = reached w.rows root (front path);
                name = last path;
                file = new_file caller kind g mode;
              });
        }) gid_is
        ∙ ap (λ p. record w {
          rows = map.insert w.rows number
              (record { parent = p; name = last path; file = new_file caller kind dir.attrs.gid mode });
        }) is.object

    row_kind : d.row.file.kind ≡ Directory
    row_kind = ap (λ (x : File). x.kind) (sym d.same) ∙ dir_kind

    -- the rows with the new one are a tree
    pub tree_after : IsTree (with_new numbers w caller path kind mode).rows
    tree_after = subst (λ (x : World). IsTree x.rows) (sym world_is)
        (IsTree-grown w.rows tree number new_row d.row absent below is.free d.there row_kind refl least.0)

    module _ {room : DirBlock} {k : ℕ} (fits : IsRoom (bytes_of c dir.number) number (last path) room k) where
      room_size : length room.block ≡ 512
      room_size = fits.block.size

      at_file : IsRoom f.file.bytes number (last path) room k
      at_file = subst (λ bs. IsRoom bs number (last path) room k) dir_bytes fits

      -- the room starts within the directory or at its end
      pub room_within : room.off ≤ length f.file.bytes
      room_within = omega (arith, at_file.off, at_file.within, dir_length.1)

      -- where a block starts
      pub room_aligned : room.off % 512 ≡ 0
      room_aligned = omega (arith, fits.off)

      -- and where one may
      pub room_fits : room.off < FILE_BYTES
      room_fits = omega (arith, fits.off, fits.fits)

      entry_is : IsEntry (number, last path)
      entry_is = (AreEntries-middle (entries_of _) (number, last path) []
          (subst AreEntries fits.adds fits.block.entries)).0

      listing_after : ListsRows (map.insert w.rows number new_row) dir.number (splice f.file.bytes room.off room.block)
      listing_after =
          let put : splice f.file.bytes room.off room.block ≡ put_over f.file.bytes (512 * k) room.block =
          splice-put_over f.file.bytes room.off room.block (omega (arith, room_size)) room_within
          ∙ ap (λ n. put_over f.file.bytes n room.block) fits.off in
          subst (ListsRows (map.insert w.rows number new_row) dir.number) (sym put)
          (ListsRows-added f.file.bytes k room.block room_size dir_length.1 at_file.within w.rows
          (map.insert w.rows number new_row) dir.number number (last path)
          (shows.listings dir.number f.file f.stored dir_kind) at_file.block at_file.adds entry_is is.free
          (child-new w.rows number new_row absent below is.free tree.unique)
          (λ q other. child-new_other w.rows number new_row absent below is.free tree.unique dir.number q
          (λ _ same. other (sym same))))

      -- the store with the new file shows the world with the new row
      pub shows_after : (before after : Content) → before ≡ c → (file : File) → file
          ≡ new_file caller kind dir.attrs.gid mode → MakesFile before after number file dir.number room.off room.block
          → Shows after (with_new numbers w caller path kind mode)
      shows_after before after same file new makes =
          let m = subst (λ x. MakesFile x after number file dir.number room.off room.block) same makes in
          subst (Shows after) (sym world_is)
          (Shows-grown c after w shows tree number new_row f.file
          (splice f.file.bytes room.off room.block) absent below is.free f.stored dir_kind unlike refl
          (m.made ∙ ap Some new) (m.listed f.file f.stored) m.others
          (grown_length Directory f.file.bytes room.off room.block refl dir_length.1 room_within room_aligned room_fits
          room_size dir_length.0)
          listing_after)

      -- it lists the new name, and otherwise what it listed
      pub gives_name : (before after : Content) → before ≡ c → (file : File) → file
          ≡ new_file caller kind dir.attrs.gid mode → MakesFile before after number file dir.number room.off room.block
          → FindsNew c after dir.number (last path) (Some number) (room.off / 512)
      gives_name before after same file new makes =
          let grown : World = record w { rows = map.insert w.rows number new_row } in
          let shown = subst (Shows after) world_is (shows_after before after same file new makes) in
          let files : (d : ℕ) → d ≢ number → option_map (λ (r : Row). r.file) (map.get grown.rows d)
          ≡ option_map (λ (r : Row). r.file) (map.get w.rows d) =
          λ d other. ap (option_map (λ (r : Row). r.file)) (get-insert_other w.rows number new_row d other) in
          record {
            keeps = λ d x found apart was. ⊎_elim
                (λ e. found_in_new d x found e (ap (map.get c) e ∙ least.2) (ap (map.get after) e ∙ makes.made)
                (ap (λ (g : File). g.bytes) new) was)
                (λ other. found_still c after w grown shows shown d (files d other) x found
                (child-new_other w.rows number new_row absent below is.free tree.unique d x
                (λ e f. apart (sym e) (sym f))) was)
                (cases_eq d number);
            finds = found_now c after w grown shows shown dir.number (last path) (Some number)
                (directory_still c after w grown shows shown dir.number (files dir.number unlike)
                (directory_at shows dir.number dir.attrs is.shown is.directory))
                (child-new w.rows number new_row absent below is.free tree.unique);
            stands = stands_made c after number dir.number (last path) room k f.file f.stored file
                (ap (λ (g : File). g.bytes) new) fits
                (subst (λ x. MakesFile x after number file dir.number room.off room.block) same makes);
          }
        where
          found_in_new : (d : ℕ) (x : List ℕ) (found : Option ℕ) → d ≡ number → map.get c d ≡ None → map.get after d
              ≡ Some file → file.bytes ≡ [] → IsFound c d x found → IsFound after d x found
          found_in_new d x None e free made empty none = λ _. ap (λ o. number_in x (all_entries (bytes_of_file o))) made
              ∙ ap (λ bs. number_in x (all_entries bs)) empty ∙ absent_at_first x []
          found_in_new d x (Some m) e free made empty lists =
              let used = some_and (map.get c d) (λ (g : File). g.kind ≡ Directory) lists.directory in
              let there = used.is in
              absurd (cc)

  -- ---- what the outcomes say

  -- a directory where the name fits nowhere has at least 140 names
  pub crowded_in : FitsNowhere (bytes_of c dir.number) None (last path) → length (last path) ≤ 255
      → FILE_BLOCKS ≤ length (children w.rows (reached w.rows root (front path)))
  crowded_in full short = subst (λ p. FILE_BLOCKS ≤ length (children w.rows p)) (sym is.object)
      (crowded w.rows dir.number (bytes_of c dir.number) None (last path)
      (bytes_listing shows dir.number dir.attrs is.shown is.directory) full short)

  -- where the store has a free number, the tree has one
  pub not_all_used : (numbers number : ℕ) → IsLeastFree numbers c (Some number) → AllUsed numbers w.rows → ⊥
  not_all_used numbers number least used =
      let none = unused_of c w shows number least.2 in
      let some = there_of (map.get w.rows number) (used number least.0 least.1) in
      let there = some.is in
      absurd (cc)

  module _ {number : ℕ} {room : DirBlock} {k : ℕ} (fits : IsRoom (bytes_of c dir.number) number (last path) room k) where
    -- where there is room, the directory isn't full
    pub roomy : FitsNowhere (bytes_of c (reached w.rows root (front path))) None (last path) → ⊥
    roomy nowhere =
        let full = subst (λ p. FitsNowhere (bytes_of c p) None (last path)) is.object nowhere in
        let over = full.full k fits.fits in
        let used = used_of-block room.block (entries_of room.block) fits.block in
        let sum : used_of (entries_of room.block) ≡ used_of (entries_of (block_at (bytes_of c dir.number) k))
        + used_of ((number, last path) ∷ []) =
        ap used_of fits.adds ∙ used_of-append (entries_of (block_at (bytes_of c dir.number) k)) ((number, last path)
        ∷ []) in
        absurd (omega arith)

    -- the directory lists the name where there is room first
    pub enters_first : (before after : Content) → before ≡ c → map.get c number ≡ None → (file : File) → file.bytes ≡ []
        → MakesFile before after number file dir.number room.off room.block
        → EntersFirst c after w.rows path
    enters_first before after same unused file empty made =
        let makes = subst (λ x. MakesFile x after number file dir.number room.off room.block) same made in
        let bytes : bytes_of after dir.number ≡ splice (bytes_of c dir.number) room.off room.block =
        ap bytes_of_file (makes.listed f.file f.stored) ∙ ap (λ bs. splice bs room.off room.block) (sym dir_bytes) in
        subst (λ m. ListsFirst (bytes_of c m) (bytes_of after m) (last path) × KeepsOthers m c after) (sym is.object) (
          (number, room, k, (fits, bytes)),
          (λ n apart _. ⊎_elim
              (λ at. ap (λ m. bytes_of after m) at ∙ ap bytes_of_file makes.made ∙ empty ∙ sym (ap bytes_of_file unused)
              ∙ ap (λ m. bytes_of c m) (sym at))
              (λ other. ap bytes_of_file (makes.others n other apart))
              (cases_eq n number)),
        )

    -- the directory is ready for a block to be written
    pub room_ready : IsBlockOf c dir.number room
    room_ready =
        let at_file = subst (λ bs. IsRoom bs number (last path) room k) dir_bytes fits in
        record {
          directory = is_some_and (λ (x : File). (x.kind ≡ Directory) × (length x.bytes % 512 ≡ 0)
              × (length x.bytes ≤ FILE_BYTES) × (room.off ≤ length x.bytes)) f.stored
              (dir_kind, dir_length.1, dir_length.0, omega (arith, at_file.off, at_file.within, dir_length.1));
          aligned = omega (arith, fits.off);
          fits = omega (arith, fits.off, fits.fits);
          size = fits.block.size;
        }
