-- Names lead to a number exactly where it is in use (`finds_names`). A directory's record and its whole blocks are for recovery
-- what they are for the store, so what one of its blocks lists is a row of the tree, and so in use (`listed_used`); and each
-- row's parent is a directory that lists it. The rows above lead to the root, so names lead down to it (`reach_down`).
use Rattle.std.proofs.Common.{◌≡◌, ◌↔◌, ℕ, zero, suc, ◌/◌, ◌%◌, ◌<◌, inl, inr, true, List, length, get_or, Option, None}
use Rattle.std.proofs.Common.{Some, refl, sym, ap, subst, ◌∙◌, arith}
use Rattle.std.specs.FinMap as map
use Rattle.std.specs.List.{Contains}
use Rattle.std.proofs.lemmas.Bool.{cases_Bool, cases_eq}
use Rattle.std.proofs.lemmas.Option.{none-some, same_Some}
use Rattle.lfs_types.specs.declared.attrs.Kind.TheVariants.{Directory}
use Rattle.lfs_types.specs.Tree.{File, Row, World}
use Rattle.lfs_types.specs.Stored.{bytes_of, bytes_of_file}
use Rattle.lfs_types.proofs.Somewhere.{is_some_and, some_and, there_of}
use Rattle.lfs_ifile.specs.Tables.{row_of}
use Rattle.lfs_inodes.specs.Facts.{block_count}
use Rattle.lfs_inodes.specs.Reading.{Fields}
use Rattle.lfs_segments.specs.Memory.{SegmentMemory}
use Rattle.lfs_recovery.specs.declared.places.RecordPlace.{RecordPlace}
use Rattle.lfs_bmap.specs.Reading.{data_block}
use Rattle.lfs_bmap.proofs.PieceLemmas.{file_bytes-length}
use Rattle.lfs_parts.specs.declared.parts.Parts.{Parts}
use Rattle.lfs_parts.specs.Files.{content_of, file_with}
use Rattle.lfs_parts.specs.View as view
use Rattle.lfs_parts.specs.View.{tree_of}
use Rattle.lfs_parts.proofs.FileLemmas.{bytes_of-record, record_used, file_at-some, free_shown, get-content_of}
use Rattle.lfs_parts.proofs.SameLogLemmas.{used_low}
use Rattle.lfs_dirs.specs.Directory.{AreEntries, number_in}
use Rattle.lfs_dirs.specs.Reading.{entries_of}
use Rattle.lfs_dirs.proofs.Changes.{Contains-number_in, number_in-Contains}
use Rattle.lfs_model.specs.World.{IsTree, ancestor, child, parent_of}
use Rattle.lfs_model.proofs.Children.{child-answer, child-is}
use Rattle.lfs_calls.specs.Content.{IsDirectoryAt, Shows, all_entries, block_at}
use Rattle.lfs_calls.proofs.ListedNames.{number-child}
use Rattle.lfs_calls.proofs.Visible.{shown_of, stored_of}
use Rattle.lfs_reach.specs.Reach.{IsListed, IsNamedBy, Reaches, begins, bytes_at, file_address, goes, record_of}
use Rattle.lfs_durable.specs.Names.{AreNewest, FindsNames, IsDurable}
use Rattle.lfs_durable.specs.Spared.{Spares}
use Rattle.lfs_durable.proofs.EntryLemmas.{in_all, in_block}
use Rattle.lfs_durable.proofs.OwnLemmas.{own_spared}
use Rattle.lfs_durable.proofs.SparedLemmas.{read_in, shown_in}

abbrev pub IsUsed : Parts → ℕ → Type 0
IsUsed p number = (row_of p.log.tables number).used ≡ true

module _ (p : Parts) (m : SegmentMemory) (d : IsDurable p) (spares : Spares p m) (w : World) (shows : Shows (content_of p) w)
    (tree : IsTree w.rows) where
  -- a number with a row is in use
  row_used : (number : ℕ) (r : Row) → map.get w.rows number ≡ Some r → IsUsed p number
  row_used number r is =
      let seen = stored_of (content_of p) w shows number r is in
      elim (cases_Bool (row_of p.log.tables number).used) [
        | inl used ↦ used
        | inr free ↦ absurd (none-some seen.file (sym (free_shown p number free) ∙ seen.stored))
      ]

  -- the file of a number is made of its record and blocks
  stored : (number : ℕ) (f : Fields) → view.record_of p number ≡ Some f
      → map.get (content_of p) number ≡ Some (file_with (tree_of p number) f)
  stored number f is = get-content_of p number ∙ file_at-some p number f is

  -- ---- a directory of the store
  module _ (dir : ℕ) (f : Fields) (is : view.record_of p dir ≡ Some f) (kind : f.attributes.kind ≡ Directory) where
    abbrev bytes : List ℕ
    bytes = bytes_of (content_of p) dir

    directory : IsDirectoryAt (content_of p) dir
    directory = is_some_and (λ (g : File). g.kind ≡ Directory) (stored dir f is) kind

    distinct : AreEntries (all_entries bytes)
    distinct = subst (λ (o : Option File). AreEntries (all_entries (bytes_of_file o))) (sym (stored dir f is))
        (shows.listings dir (file_with (tree_of p dir) f) (stored dir f is) kind).distinct

    long : length bytes ≡ f.attributes.size
    long = ap length (bytes_of-record p dir f is)
        ∙ file_bytes-length (data_block (tree_of p dir)) (d.store.whole.files dir f is).padded.whole f.attributes.size

    whole : f.attributes.size % 512 ≡ 0
    whole = (d.store.whole.files dir f is).formed.sized.1 kind

    -- what one of its blocks lists is found in it, and a block of it lists what is found
    block_is : (index : ℕ) → index < block_count f.attributes.size
        → bytes_at m (file_address m f index) ≡ block_at bytes index
    block_is index within =
        let at_most = (d.store.whole.files dir f is).formed.sized.0 in
        let multiple = whole in
        shown_in p m d spares dir f (used_low p dir (record_used p dir f is)) is index (omega arith) (omega arith)

    listed_used : (number index : ℕ) → index < block_count f.attributes.size
        → IsListed (entries_of (bytes_at m (file_address m f index))) number → IsUsed p number
    listed_used number index within listed =
        let size = long in
        let multiple = whole in
        let here : Contains (entries_of (block_at bytes index)) (number, listed.name) =
        subst (λ (b : List ℕ). Contains (entries_of b) (number, listed.name)) (block_is index within) listed.there in
        let all : Contains (all_entries bytes) (number, listed.name) =
        in_all bytes index (length bytes / 512) (number, listed.name) (omega arith) here in
        let found : number_in listed.name (all_entries bytes) ≡ Some number =
        number_in-Contains (number, listed.name) (all_entries bytes) distinct all in
        let hangs = child-is w.rows dir listed.name number
        (sym (number-child (content_of p) w shows dir directory listed.name) ∙ found) in
        row_used number hangs.row hangs.there

    names_child : (place : Option RecordPlace) (number : ℕ) (name : List ℕ) → record_of m place ≡ Some f → number < 4096
        → child w.rows dir name ≡ Some number → IsNamedBy m place number
    names_child place number name read low hangs =
        let size = long in
        let found : number_in name (all_entries bytes) ≡ Some number =
        number-child (content_of p) w shows dir directory name ∙ hangs in
        let at = in_block bytes (length bytes / 512) (number, name) (Contains-number_in name number (all_entries bytes) found) in
        let below = at.below in
        let within : at.block < block_count f.attributes.size = omega arith in
        record {
          fields = f;
          read = read;
          directory = kind;
          index = at.block;
          within = within;
          listed = record {
            name = name;
            there = subst (λ (b : List ℕ). Contains (entries_of b) (number, name)) (sym (block_is at.block within)) at.here;
            below = low;
          };
        }

  module _ (places : List (Option RecordPlace)) (newest : AreNewest m places) where
    -- the newest record of a number in use is the store's
    read_of : (number : ℕ) → IsUsed p number → record_of m (get_or places number None) ≡ view.record_of p number
    read_of number used =
        let low = used_low p number used in
        let most = d.store.whole.parts.formed.inodes_most in
        read_in p m d spares number used (get_or places number None) (newest.each number (omega arith))

    reach_used : (number : ℕ) → Reaches m places number → IsUsed p number
    reach_used number begins = let top = some_and (map.get w.rows 2) _ tree.rooted in row_used 2 top.value top.is
    reach_used number (goes dir n reached named) =
        let used = reach_used dir reached in
        listed_used dir named.fields (sym (read_of dir used) ∙ named.read) named.directory number named.index named.within
        named.listed

    reach_down : (k number : ℕ) (r : Row) → map.get w.rows number ≡ Some r → ancestor w.rows k number ≡ 2
        → Reaches m places number
    unfolding ancestor
    reach_down zero number r is up = subst (Reaches m places) (sym up) begins
    reach_down (suc k) number r is up = elim (cases_eq number 2) [
      | inl top ↦ subst (Reaches m places) (sym top) begins
      | inr below ↦
          let dir : ℕ = r.parent in
          let parent = some_and (map.get w.rows dir) (λ (q : Row). q.file.kind ≡ Directory) (tree.parents number r is) in
          let above : ancestor w.rows k dir ≡ 2 = ap (λ (o : Option Row). ancestor w.rows k (parent_of o)) (sym is) ∙ up in
          let used : IsUsed p dir = row_used dir parent.value parent.is in
          let f = there_of (view.record_of p dir) (d.store.whole.recorded dir used) in
          let seen = stored_of (content_of p) w shows dir parent.value parent.is in
          let same : seen.file ≡ file_with (tree_of p dir) f.value =
          same_Some seen.file (file_with (tree_of p dir) f.value) (sym seen.stored ∙ stored dir f.value f.is) in
          let kind : f.value.attributes.kind ≡ Directory =
          ap (λ (g : File). g.kind) (sym same) ∙ ap (λ (g : File). g.kind) seen.same ∙ parent.holds in
          let low = used_low p number (row_used number r is) in
          let most = d.store.whole.parts.formed.inodes_most in
          let hangs : child w.rows dir r.name ≡ Some number = child-answer w.rows tree.unique dir r.name (Some number)
          (record { row = r; there = is; below = below; hangs = refl; named = refl }) in
          goes dir number (reach_down k dir parent.value parent.is above)
          (names_child dir f.value f.is kind (get_or places dir None) number r.name (read_of dir used ∙ f.is) (omega arith) hangs)
    ]

    reach_all : (number : ℕ) → IsUsed p number → Reaches m places number
    reach_all number used =
        let f = there_of (view.record_of p number) (d.store.whole.recorded number used) in
        let row = shown_of (content_of p) w shows number (file_with (tree_of p number) f.value) (stored number f.value f.is) in
        let up = tree.reached number row.row row.there in
        reach_down up.0 number row.row row.there up.1

-- in a memory that spares the store
pub finds_spared_names : (p : Parts) (m : SegmentMemory) (w : World) (places : List (Option RecordPlace)) (number : ℕ)
    → IsDurable p → Spares p m → Shows (content_of p) w → IsTree w.rows → AreNewest m places
    → Reaches m places number ↔ IsUsed p number
finds_spared_names p m w places number d spares shows tree newest = (
  reach_used p m d spares w shows tree places newest number,
  reach_all p m d spares w shows tree places newest number,
)

pub finds_names : FindsNames
finds_names p w places number d shows tree newest =
    finds_spared_names p p.log.memory w places number d (own_spared p d) shows tree newest
