-- The record of a file waits with a smaller size once nothing is left past it: `shortened`, with `cut_addresses`, for
-- `shorten`. `MayShorten` has all that `IsFile` asks for at the new size, no address and no frame past it and
-- zeros behind, so the size alone changes; the record's cells past it are 0 already, so to zero them changes nothing.
-- Called before the blocks went, it would leave addresses past the size.
use Rattle.std.proofs.Common.{◌≡◌, ◌≢◌, ℕ, ◌+◌, ◌≤◌, List, [], ◌∷◌, length, Some, is_some, sym, ap, ◌∙◌, subst, inl}
use Rattle.std.proofs.Common.{inr, arith}
use Rattle.std.specs.Prelude.{slice_index}
use Rattle.std.proofs.lemmas.Bool.{cases_eq, cases_lt}
use Rattle.std.proofs.lemmas.Option.{same_Some}
use Rattle.lfs_ifile.specs.Tables.{row_of}
use Rattle.lfs_inodes.specs.declared.inode.Inode.{Inode}
use Rattle.lfs_inodes.specs.Addresses.{addresses, kept_roots}
use Rattle.lfs_inodes.specs.Attributes.{Attributes, attributes}
use Rattle.lfs_inodes.specs.Facts.{block_count}
use Rattle.lfs_inodes.specs.Reading.{Fields, fields_of}
use Rattle.lfs_inodes.proofs.AddressLemmas.{length-addresses}
use Rattle.lfs_inodes.proofs.FieldLemmas.{AreFields-fields_of}
use Rattle.lfs_inodes.proofs.CutLemmas.{kept_roots-all}
use Rattle.lfs_cache.specs.Changes.{IsContents}
use Rattle.lfs_cache.specs.Contents.{IsLocked}
use Rattle.lfs_log.specs.Parts.{IsParts, LogParts}
use Rattle.lfs_bmap.specs.declared.blocks.FileBlock.{FileBlock}
use Rattle.lfs_bmap.specs.Blocks.{IsFileBlock, code_of, first_under, way_to}
use Rattle.lfs_bmap.specs.Pieces.{IsPadded}
use Rattle.lfs_bmap.specs.Reading.{address, data_block}
use Rattle.lfs_bmap.specs.Ways.{way_of}
use Rattle.lfs_bmap.proofs.ReadingLemmas.{address-cell, address-root, table-root}
use Rattle.lfs_bmap.proofs.WayLemmas.{way_of-code_of, way_of-zero}
use Rattle.lfs_parts.specs.declared.parts.Parts.{Parts}
use Rattle.lfs_staging.specs.Cutting.{GoneFrom, MayShorten, Shortens}
use Rattle.lfs_staging.specs.Staging.{IsStaged, StagesRecord}
use Rattle.lfs_parts.specs.Store.{AreFiles, IsFile, IsPresent, IsWithin}
use Rattle.lfs_parts.specs.View.{key_of, record_of, root_in, tree_of, version_of, waiting_in}
use Rattle.lfs_parts.specs.Waiting.{without}
use Rattle.lfs_parts.proofs.CleanLemmas.{mirrors_log}
use Rattle.lfs_parts.proofs.HeldLemmas.{GainsNoClean-same}
use Rattle.lfs_parts.proofs.SameLogLemmas.{log_kept}
use Rattle.lfs_staging.proofs.KeptLemmas.{record_once, record_parents, record_present, record_room, record_trees}
use Rattle.lfs_parts.proofs.SameLogLemmas.{version-same}
use Rattle.lfs_parts.proofs.WaitingLemmas.{length-less, others_kept, waiting-head}
use Rattle.lfs_staging.proofs.HolderLemmas.{gone_free}
use Rattle.lfs_bmap.proofs.HolderLemmas.{root_block}
use Rattle.lfs_parts.proofs.SameLogLemmas.{present_kept}

-- the addresses of a record from whose place on there are none stay where they are cut
root_cell : (p : Parts) (v : Inode) (i : ℕ) → record_of p v.number ≡ Some (fields_of v)
    → address (tree_of p v.number) (i ∷ []) ≡ slice_index (addresses v) i
root_cell p v i has = address-cell (tree_of p v.number) i []
    ∙ ap (λ ys. slice_index ys i) (table-root (tree_of p v.number) ∙ ap root_in has)

pub cut_addresses : (p : Parts) (v : Inode) (left : ℕ) → record_of p v.number ≡ Some (fields_of v)
    → GoneFrom p v.number left → kept_roots left (addresses v) ≡ addresses v
cut_addresses p v left has gone =
    kept_roots-all left (addresses v) (length-addresses v) (λ k inside from.
    let block = root_block k inside in
    sym (root_cell p v k has) ∙ ap (address (tree_of p v.number)) (sym block.way)
    ∙ (gone block.block block.is block.other (let least = block.from in omega arith)).nowhere)

module _ (old new : Parts) (v w : Inode) (len : ℕ) (may : MayShorten old v.number len) (has : record_of old v.number
    ≡ Some (fields_of v)) (h : StagesRecord w old new)
    (changed : attributes w ≡ record (attributes v) { size = len }) (roots : addresses w ≡ addresses v) where
  files : AreFiles old
  files = may.staged.whole

  same_number : w.number ≡ v.number
  same_number = ap (λ (a : Attributes). a.number) changed

  same_version : w.version ≡ v.version
  same_version = ap (λ (a : Attributes). a.version) changed

  same_size : w.size ≡ len
  same_size = ap (λ (a : Attributes). a.size) changed

  here : record_of new v.number ≡ Some (fields_of w)
  here = ap (record_of new) (sym same_number) ∙ h.here

  others : (n : ℕ) → n ≢ v.number → record_of new n ≡ record_of old n
  others n other = h.others n (λ e. other (e ∙ same_number))

  trees : (n : ℕ) → tree_of new n ≡ tree_of old n
  trees = record_trees old new w h (λ n. elim (cases_eq n v.number) [
    | inl is ↦ ap (λ m. root_in (record_of new m)) is ∙ ap root_in here ∙ roots
        ∙ sym (ap (λ m. root_in (record_of old m)) is ∙ ap root_in has)
    | inr other ↦ ap root_in (others n other)
  ])

  old_file : IsFile old v.number (fields_of v)
  old_file = files.files v.number (fields_of v) has

  was_present : IsPresent old w.number w.version
  was_present = record {
    in_use = ap (λ n. (row_of old.log.tables n).used) same_number ∙ may.in_use;
    at_version = same_version ∙ old_file.own_version ∙ ap (version_of old) (sym same_number);
  }

  gone_nowhere : (block : FileBlock) → IsFileBlock block → block_count len ≤ first_under block
      → address (tree_of old v.number) (way_to block) ≡ 0
  gone_nowhere block is past = elim (cases_eq (code_of block) 0) [
    | inl e ↦ ap (address (tree_of old v.number)) (sym (way_of-code_of block is) ∙ ap way_of e ∙ way_of-zero)
        ∙ address-root (tree_of old v.number)
    | inr other ↦ (may.gone block is other past).nowhere
  ]

  file_after : IsFile new v.number (fields_of w)
  file_after = record {
    formed = AreFields-fields_of w;
    own_number = same_number;
    own_version = same_version ∙ old_file.own_version ∙ sym (version-same old new v.number h.log);
    none_past = λ block is past. ap (λ t. address t (way_to block)) (trees v.number)
        ∙ gone_nowhere block is (subst (λ k. block_count k ≤ first_under block) same_size past);
    padded = subst (λ t. IsPadded (data_block t) w.size) (sym (trees v.number))
        (subst (IsPadded (data_block (tree_of old v.number))) (sym same_size) may.padded);
  }

  other_file : (n : ℕ) (f : Fields) → IsFile old n f → IsFile new n f
  other_file n f was = record {
    formed = was.formed;
    own_number = was.own_number;
    own_version = was.own_version ∙ sym (version-same old new n h.log);
    none_past = λ block is past. ap (λ t. address t (way_to block)) (trees n) ∙ was.none_past block is past;
    padded = subst (λ t. IsPadded (data_block t) f.attributes.size) (sym (trees n)) was.padded;
  }

  files_after : AreFiles new
  files_after = record {
    parts = subst IsParts (sym h.log) files.parts;
    cache = subst IsContents (sym h.cache) files.cache;
    reserved = λ n low other. ap (λ (l : LogParts). (row_of l.tables n).used) h.log ∙ files.reserved n low other;
    recorded = λ n used. elim (cases_eq n v.number) [
      | inl is ↦ ap (λ m. is_some (record_of new m)) is ∙ ap is_some here
      | inr other ↦ ap is_some (others n other)
          ∙ files.recorded n (sym (ap (λ (l : LogParts). (row_of l.tables n).used) h.log) ∙ used)
    ];
    files = λ n f is. elim (cases_eq n v.number) [
      | inl same ↦
          let f_is : fields_of w ≡ f = same_Some (fields_of w) f (sym here ∙ ap (record_of new) (sym same) ∙ is) in
          subst (λ m. IsFile new m f) (sym same) (subst (IsFile new v.number) f_is file_after)
      | inr other ↦ other_file n f (files.files n f (sym (others n other) ∙ is))
    ];
    records = λ k d low.
        let r = record_present old new w h files was_present k d low in
        present_kept old new _ _ h.log r;
    frames = λ key locked. present_kept old new key.ino key.version h.log
        (files.frames key (subst (IsLocked key) h.cache locked));
    coded = λ key locked. files.coded key (subst (IsLocked key) h.cache locked);
    mirrors = mirrors_log old new files.mirrors (GainsNoClean-same old.cache new.cache h.cache) h.log
        (λ n way known. ap (λ t. address t way) (trees n));
  }

  -- what waits of the file lies within its length
  left_within : (block : FileBlock) → IsFileBlock block
      → IsLocked (key_of v.number (version_of old v.number) (code_of block)) old.cache → IsWithin block len
  left_within block can locked = elim (cases_lt (first_under block) (block_count len)) [
    | inl inside ↦ inside
    | inr past ↦
        let code = files.coded (key_of v.number (version_of old v.number) (code_of block)) locked in
        absurd (gone_free old v.number block (may.gone block can code.other past) locked)
  ]

  within_after : (n : ℕ) (block : FileBlock) (f : Fields) → record_of new n ≡ Some f → IsFileBlock block
      → IsLocked (key_of n (version_of new n) (code_of block)) new.cache
      → IsWithin block f.attributes.size
  within_after n block f is can locked =
      let before : IsLocked (key_of n (version_of old n) (code_of block)) old.cache
      = subst (λ version. IsLocked (key_of n version (code_of block)) old.cache) (version-same old new n h.log)
      (subst (IsLocked (key_of n (version_of new n) (code_of block))) h.cache locked) in
      elim (cases_eq n v.number) [
        | inl same ↦
            let f_is : fields_of w ≡ f = same_Some (fields_of w) f (sym here ∙ ap (record_of new) (sym same) ∙ is) in
            subst (λ (x : Fields). IsWithin block x.attributes.size) f_is (subst (IsWithin block) (sym same_size)
            (left_within block can (subst (λ m. IsLocked (key_of m (version_of old m) (code_of block)) old.cache) same
            before)))
        | inr other ↦ may.staged.within n block f (sym (others n other) ∙ is) can before
      ]

  room_after : without v.number new.waiting ≡ without v.number old.waiting
  room_after = subst (λ n. without n new.waiting ≡ without n old.waiting) same_number (record_room old new w h)

  no_more : length new.waiting ≤ length old.waiting
  no_more =
      let items : length new.waiting ≡ length (without v.number old.waiting) + 1
      = ap length h.waiting ∙ ap (λ n. length (w ∷ without n old.waiting)) same_number ∙ omega arith in
      let less = length-less old.waiting v.number may.waits in
      omega arith

  staged_after : IsStaged new 0
  staged_after = record {
    whole = files_after;
    log = log_kept old new 0 h.log (λ n way known. ap (λ t. address t way) (trees n)) may.staged.log;
    parents = record_parents old new w h may.staged.parents;
    once = record_once old new w h may.staged.once;
    few = let few = may.staged.few in let less = no_more in omega arith;
    within = within_after;
  }

  pub shortened : Shortens v.number len old new
  shortened = record {
    staged = staged_after;
    log = h.log;
    cache = h.cache;
    here = λ f is. record {
      addresses = addresses w;
      there = here ∙ ap (λ (a : Attributes). Some (record { attributes = a; addresses = addresses w })) changed
          ∙ ap (λ (x : Fields). Some (record {
            attributes = record (x.attributes) { size = len };
            addresses = addresses w;
          })) (same_Some (fields_of v) f (sym has ∙ is));
    };
    others = others;
    blocks = trees;
    other_records = others_kept v.number old.waiting new.waiting
        (subst (λ n. without n new.waiting ≡ without n old.waiting) same_number (record_room old new w h));
    waiting = no_more;
    waits = ap is_some (ap (λ (vs : List Inode). waiting_in vs v.number) h.waiting
        ∙ waiting-head w (without w.number old.waiting) v.number same_number);
  }
