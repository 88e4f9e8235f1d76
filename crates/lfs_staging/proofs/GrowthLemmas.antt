-- A greater size, bytes put and other attributes show as the content says: `grown_to`, `put_shown`, `attrs_shown`, for
-- `grow`, `put` and `set_attrs`. A record that waits with the same addresses leaves each block
-- (`record_changed`), and blocks put one by one are the `splice` of the file (`put_splice` of `lfs_bmap`). The size may
-- only grow here, since what is zero past it is zero past a greater one; a smaller one is ShorterLemmas'.
use Rattle.std.proofs.Common.{◌≡◌, ◌≢◌, ℕ, ◌+◌, ◌*◌, ◌<◌, ◌≤◌, max, List, length, Some, option_map, is_some, sym, ap}
use Rattle.std.proofs.Common.{◌∙◌, subst, inl, inr, arith}
use Rattle.std.specs.Cmp.{nat_cmp_total}
use Rattle.std.specs.FinMap as map
use Rattle.std.specs.FinMap.{same_map, nat_cmp-IsAntisymmetric}
use Rattle.std.proofs.lemmas.Bool.{cases_eq}
use Rattle.std.proofs.lemmas.Option.{same_Some}
use Rattle.lfs_types.specs.declared.attrs.Attrs.{Attrs}
use Rattle.lfs_types.specs.Changes.{changed_at}
use Rattle.lfs_types.specs.Splicing.{splice}
use Rattle.lfs_types.specs.Tree.{File, file_of}
use Rattle.lfs_types.proofs.Maps.{get-insert_same, get-insert_other}
use Rattle.lfs_ifile.specs.Tables.{row_of}
use Rattle.lfs_inodes.specs.declared.inode.Inode.{Inode}
use Rattle.lfs_inodes.specs.Addresses.{addresses}
use Rattle.lfs_inodes.specs.Attributes.{Attributes, attributes, attributes_from, stat_of}
use Rattle.lfs_inodes.specs.Reading.{Fields, fields_of}
use Rattle.lfs_inodes.proofs.FieldLemmas.{AreFields-fields_of}
use Rattle.lfs_cache.specs.Changes.{IsContents}
use Rattle.lfs_cache.specs.Contents.{IsLocked}
use Rattle.lfs_log.specs.Parts.{IsParts, LogParts}
use Rattle.lfs_bmap.specs.declared.blocks.FileBlock.{FileBlock}
use Rattle.lfs_bmap.specs.Blocks.{code_of, way_to}
use Rattle.lfs_bmap.specs.Pieces.{IsPadded, IsPut, file_bytes}
use Rattle.lfs_bmap.specs.Reading.{address, data_block}
use Rattle.lfs_bmap.proofs.PieceLemmas.{put_splice}
use Rattle.lfs_parts.specs.declared.parts.Parts.{Parts}
use Rattle.lfs_parts.specs.Files.{content_of, file_at, file_with}
use Rattle.lfs_staging.specs.Putting.{GrowsTo, MayChange, PutsBytes, with_attrs, with_put}
use Rattle.lfs_staging.specs.Staging.{IsStaged, MayStage, StagesRecord}
use Rattle.lfs_parts.specs.Store.{AreFiles, IsFile, IsPresent, IsWithin}
use Rattle.lfs_parts.specs.View.{LiesIn, blocks_of, key_of, record_of, root_in, tree_of, version_of}
use Rattle.lfs_parts.specs.Waiting.{without}
use Rattle.lfs_parts.proofs.CleanLemmas.{mirrors_log}
use Rattle.lfs_parts.proofs.HeldLemmas.{GainsNoClean-same}
use Rattle.lfs_parts.proofs.FileLemmas.{file_at-record, file_at-some, get-content_of}
use Rattle.lfs_staging.proofs.KeptLemmas.{AllWithin, few_records, may_present, record_once, record_parents}
use Rattle.lfs_parts.proofs.SameLogLemmas.{log_kept}
use Rattle.lfs_staging.proofs.KeptLemmas.{record_present, record_room, record_trees}
use Rattle.lfs_parts.proofs.SameLogLemmas.{version-same}
use Rattle.lfs_parts.proofs.WaitingLemmas.{length-rest, length-without}
use Rattle.lfs_parts.proofs.SameLogLemmas.{present_kept}

-- The record of a file waits with other attributes, and the file's blocks stay. Nothing else changed.
pub record ChangesRecord (v w : Inode) (old new : Parts) : Type 0 where
  pub log : new.log ≡ old.log
  pub cache : new.cache ≡ old.cache
  pub here : record_of new v.number ≡ Some (fields_of w)
  pub others : (n : ℕ) → n ≢ v.number → record_of new n ≡ record_of old n
  pub blocks : (n : ℕ) → tree_of new n ≡ tree_of old n
  pub again : MayStage new w
  pub kept : (spare : ℕ) → IsStaged old spare → IsStaged new spare
  pub room : without v.number new.waiting ≡ without v.number old.waiting

-- a block that lies within a size lies within a greater one
pub within_more : (block : FileBlock) (size other : ℕ) → size ≤ other → IsWithin block size → IsWithin block other
within_more block size other more within = omega arith

padded_longer : (blocks : ℕ → List ℕ) (size other : ℕ) → IsPadded blocks size → size ≤ other → IsPadded blocks other
padded_longer blocks size other h more = record { whole = h.whole; zeros = λ i past. h.zeros i (omega arith) }

-- The record waits with other attributes, of the same number and version and with a size that is not less, and with the
-- same addresses.
module _ (old new : Parts) (v w : Inode) (may : MayStage old v) (h : StagesRecord w old new) (same_number : w.number
    ≡ v.number) (same_version : w.version ≡ v.version)
    (roots : addresses w ≡ addresses v) (more : v.size ≤ w.size) where
  grown_here : record_of new v.number ≡ Some (fields_of w)
  grown_here = ap (record_of new) (sym same_number) ∙ h.here

  grown_others : (n : ℕ) → n ≢ v.number → record_of new n ≡ record_of old n
  grown_others n other = h.others n (λ e. other (e ∙ same_number))

  grown_trees : (n : ℕ) → tree_of new n ≡ tree_of old n
  grown_trees = record_trees old new w h (λ n. elim (cases_eq n v.number) [
    | inl is ↦ ap (λ m. root_in (record_of new m)) is ∙ ap root_in grown_here ∙ roots
        ∙ sym (ap (λ m. root_in (record_of old m)) is ∙ ap root_in may.here)
    | inr other ↦ ap root_in (grown_others n other)
  ])

  old_file : IsFile old v.number (fields_of v)
  old_file = may.files.files v.number (fields_of v) may.here

  was_present : IsPresent old w.number w.version
  was_present =
      let p = may_present old v may in
      subst (λ n. IsPresent old n w.version) (sym same_number) (subst (IsPresent old v.number) (sym same_version) p)

  grown_file : IsFile new v.number (fields_of w)
  grown_file = record {
    formed = AreFields-fields_of w;
    own_number = same_number;
    own_version = same_version ∙ old_file.own_version ∙ sym (version-same old new v.number h.log);
    none_past = λ block is past. ap (λ t. address t (way_to block)) (grown_trees v.number)
        ∙ old_file.none_past block is (omega arith);
    padded = subst (λ t. IsPadded (data_block t) w.size) (sym (grown_trees v.number))
        (padded_longer (data_block (tree_of old v.number)) v.size w.size old_file.padded (omega arith));
  }

  other_file : (n : ℕ) (f : Fields) → IsFile old n f → IsFile new n f
  other_file n f was = record {
    formed = was.formed;
    own_number = was.own_number;
    own_version = was.own_version ∙ sym (version-same old new n h.log);
    none_past = λ block is past. ap (λ t. address t (way_to block)) (grown_trees n) ∙ was.none_past block is past;
    padded = subst (λ t. IsPadded (data_block t) f.attributes.size) (sym (grown_trees n)) was.padded;
  }

  grown_files : AreFiles new
  grown_files = record {
    parts = subst IsParts (sym h.log) may.files.parts;
    cache = subst IsContents (sym h.cache) may.files.cache;
    reserved = λ n low other. ap (λ (l : LogParts). (row_of l.tables n).used) h.log ∙ may.files.reserved n low other;
    recorded = λ n used. elim (cases_eq n v.number) [
      | inl is ↦ ap (λ m. is_some (record_of new m)) is ∙ ap is_some grown_here
      | inr other ↦ ap is_some (grown_others n other)
          ∙ may.files.recorded n (sym (ap (λ (l : LogParts). (row_of l.tables n).used) h.log) ∙ used)
    ];
    files = λ n f is. elim (cases_eq n v.number) [
      | inl here ↦
          let f_is : fields_of w ≡ f = same_Some (fields_of w) f (sym grown_here ∙ ap (record_of new) (sym here) ∙ is)
          in
          subst (λ m. IsFile new m f) (sym here) (subst (IsFile new v.number) f_is grown_file)
      | inr other ↦ other_file n f (may.files.files n f (sym (grown_others n other) ∙ is))
    ];
    records = λ k d low.
        let r = record_present old new w h may.files was_present k d low in
        present_kept old new _ _ h.log r;
    frames = λ key locked. present_kept old new key.ino key.version h.log
        (may.files.frames key (subst (IsLocked key) h.cache locked));
    coded = λ key locked. may.files.coded key (subst (IsLocked key) h.cache locked);
    mirrors = mirrors_log old new may.files.mirrors (GainsNoClean-same old.cache new.cache h.cache) h.log
        (λ n way known. ap (λ t. address t way) (grown_trees n));
  }

  grown_again : MayStage new w
  grown_again = record {
    files = grown_files;
    parents = record_parents old new w h may.parents;
    inside = subst (λ n. LiesIn (blocks_of new) (tree_of new n)) (sym same_number)
        (subst (λ t. LiesIn (blocks_of new) t) (sym (grown_trees v.number))
        (subst (λ m. LiesIn m (tree_of old v.number))
        (sym (ap (λ (l : LogParts). l.memory.segments * 64) h.log)) may.inside));
    in_range = subst (λ n. n < length new.log.tables.rows) (sym same_number)
        (subst (λ n. v.number < n) (sym (ap (λ (l : LogParts). length l.tables.rows) h.log)) may.in_range);
    in_use = (present_kept old new w.number w.version h.log was_present).in_use;
    here = h.here;
    records = subst (λ (vs : List Inode). length vs < 64)
        (sym (record_room old new w h ∙ ap (λ n. without n old.waiting) same_number)) may.records;
  }

  grown_within : AllWithin old → AllWithin new
  grown_within was n block f is can locked =
      let before : IsLocked (key_of n (version_of old n) (code_of block)) old.cache
      = subst (λ version. IsLocked (key_of n version (code_of block)) old.cache) (version-same old new n h.log)
      (subst (IsLocked (key_of n (version_of new n) (code_of block))) h.cache locked) in
      elim (cases_eq n v.number) [
        | inl here ↦
            let f_is : fields_of w ≡ f = same_Some (fields_of w) f (sym grown_here ∙ ap (record_of new) (sym here) ∙ is)
            in
            subst (λ (x : Fields). IsWithin block x.attributes.size) f_is
            (within_more block v.size w.size more (was n block (fields_of v) (ap (record_of old) here
            ∙ may.here) can before))
        | inr other ↦ was n block f (sym (grown_others n other) ∙ is) can before
      ]

  grown_room : without v.number new.waiting ≡ without v.number old.waiting
  grown_room = subst (λ n. without n new.waiting ≡ without n old.waiting) same_number (record_room old new w h)

  pub grown_kept : (spare : ℕ) → IsStaged old spare → IsStaged new spare
  grown_kept spare staged = record {
    whole = grown_files;
    log = log_kept old new spare h.log (λ n way known. ap (λ t. address t way) (grown_trees n)) staged.log;
    parents = record_parents old new w h staged.parents;
    once = record_once old new w h staged.once;
    few = few_records new v.number (without v.number old.waiting) grown_room may.records;
    within = grown_within staged.within;
  }

  pub record_changed : ChangesRecord v w old new
  record_changed = record {
    log = h.log;
    cache = h.cache;
    here = grown_here;
    others = grown_others;
    blocks = grown_trees;
    again = grown_again;
    kept = grown_kept;
    room = grown_room;
  }

pub grown_to : (old new : Parts) (v w : Inode) (size least : ℕ) → MayStage old v → StagesRecord w old new → attributes w
    ≡ record (attributes v) { size = size }
    → addresses w ≡ addresses v → v.size ≤ size → size ≡ max v.size least → GrowsTo v w least old new
grown_to old new v w size least may h changed roots more is =
    let number : w.number ≡ v.number = ap (λ (a : Attributes). a.number) changed in
    let larger : w.size ≡ size = ap (λ (a : Attributes). a.size) changed in
    let r = record_changed old new v w may h number (ap (λ (a : Attributes). a.version) changed) roots (omega arith) in
    record {
      log = r.log;
      cache = r.cache;
      number = number;
      size_is = larger ∙ is;
      here = r.here ∙ (λ i. Some (record { attributes = changed i; addresses = roots i }))
          ∙ ap (λ n. Some (record (fields_of v) { attributes = record (attributes v) { size = n } })) is;
      others = r.others;
      blocks = r.blocks;
      again = r.again;
      kept = r.kept;
      room = r.room;
    }

-- ---- bytes put into a file
-- the file with these data blocks and a record
abbrev pub file_from : (ℕ → List ℕ) → Fields → File
file_from blocks f = file_of (stat_of f.attributes) (file_bytes blocks f.attributes.size)

module _ (old between new : Parts) (v w : Inode) (start : ℕ) (bytes : List ℕ) (has : record_of old v.number
    ≡ Some (fields_of v)) (file : IsFile old v.number (fields_of v))
    (some : 0 < length bytes) (g : GrowsTo v w (start + length bytes) old between)
    (h : PutsBytes w start bytes between new) where
  -- the record, with the greater size
  put_record : record_of new v.number ≡ Some
      (record (fields_of v) { attributes = record (attributes v) { size = max v.size (start + length bytes) } })
  put_record = h.records v.number ∙ g.here

  put_each : (n : ℕ) → IsPut n start bytes (data_block (tree_of old v.number) n) (data_block (tree_of new v.number) n)
  put_each n =
      subst (λ t. IsPut n start bytes (data_block t n) (data_block (tree_of new v.number) n)) (g.blocks v.number)
      (subst (λ k. IsPut n start bytes (data_block (tree_of between k) n) (data_block (tree_of new k) n)) g.number
      (h.put n))

  -- its bytes
  put_bytes : file_bytes (data_block (tree_of new v.number)) (max v.size (start + length bytes))
      ≡ splice (file_bytes (data_block (tree_of old v.number)) v.size) start bytes
  put_bytes = put_splice (data_block (tree_of old v.number))
      (data_block (tree_of new v.number)) v.size start bytes file.padded put_each some

  put_file : file_at new v.number ≡ Some (record
      (file_with (tree_of old v.number) (fields_of v)) {
        bytes =
            splice (file_bytes (data_block (tree_of old v.number)) v.size) start bytes;
      })
  put_file =
      file_at-some new v.number _ put_record
      ∙ ap (λ bs. Some (record (file_with (tree_of old v.number) (fields_of v)) { bytes = bs })) put_bytes

  -- another number's file stays
  put_other : (n : ℕ) → n ≢ v.number → file_at new n ≡ file_at old n
  put_other n other =
      let apart : n ≢ w.number = λ e. other (e ∙ g.number) in
      let blocks : (m : ℕ) → data_block (tree_of new n) m ≡ data_block (tree_of old n) m
      = λ m. h.others n m apart ∙ ap (λ t. data_block t m) (g.blocks n) in
      let records : record_of new n ≡ record_of old n = h.records n ∙ g.others n other in
      file_at-record new n ∙ ap (option_map (file_with (tree_of new n))) records
      ∙ (λ i. option_map (λ (f : Fields). file_from (λ m. blocks m i) f) (record_of old n)) ∙ sym (file_at-record old n)

  pub put_content : content_of new ≡ with_put v.number start bytes (content_of old)
  put_content =
      let before : map.get (content_of old) v.number ≡ Some (file_with (tree_of old v.number) (fields_of v))
      = get-content_of old v.number ∙ file_at-some old v.number (fields_of v) has in
      let to : with_put v.number start bytes (content_of old) ≡ map.insert (content_of old) v.number
      (record (file_with (tree_of old v.number) (fields_of v)) {
        bytes =
            splice (file_bytes (data_block (tree_of old v.number)) v.size) start bytes;
      })
      = ap (λ o. changed_at o v.number (λ (f : File). record f { bytes = splice f.bytes start bytes }) (content_of old))
      before in
      same_map nat_cmp_total nat_cmp-IsAntisymmetric (content_of new) _ (λ q. elim (cases_eq q v.number) [
        | inl is ↦ ap (map.get (content_of new)) is ∙ get-content_of new v.number ∙ put_file
            ∙ sym (ap (map.get (with_put v.number start bytes (content_of old))) is ∙ ap (λ c. map.get c v.number) to
            ∙ get-insert_same (content_of old) v.number _)
        | inr other ↦ get-content_of new q ∙ put_other q other ∙ sym (get-content_of old q)
            ∙ sym (ap (λ c. map.get c q) to ∙ get-insert_other (content_of old) v.number _ q other)
      ])

-- where a file may be changed, its blocks may wait
pub may_from : (p : Parts) (v : Inode) (number : ℕ) → MayChange p number → record_of p number ≡ Some (fields_of v)
    → MayStage p v
may_from p v number may has =
    let own : v.number ≡ number = (may.files.files number (fields_of v) has).own_number in
    record {
      files = may.files;
      parents = may.parents;
      inside = subst (λ n. LiesIn (blocks_of p) (tree_of p n)) (sym own) may.inside;
      in_range = subst (λ n. n < length p.log.tables.rows) (sym own) may.in_range;
      in_use = ap (λ n. (row_of p.log.tables n).used) own ∙ may.in_use;
      here = ap (record_of p) own ∙ has;
      records = subst (λ n. length (without n p.waiting) < 64) (sym own) may.records;
    }

-- at most one record more waits where those of the other numbers are the same
pub one_record : (old new : Parts) (number : ℕ) → without number new.waiting ≡ without number old.waiting
    → length new.waiting ≤ length old.waiting + 1
one_record old new number same =
    let more = length-rest new.waiting number in
    let less = length-without old.waiting number in
    let is : length (without number new.waiting)
    ≡ length (without number old.waiting) = ap (λ (vs : List Inode). length vs) same in
    omega arith

pub put_shown : (old between new : Parts) (v w : Inode) (number start : ℕ) (bytes : List ℕ) → MayChange old number
    → 0 < length bytes → record_of old number ≡ Some (fields_of v)
    → GrowsTo v w (start + length bytes) old between → PutsBytes w start bytes between new → content_of new
    ≡ with_put number start bytes (content_of old)
put_shown old between new v w number start bytes may some has g h =
    let own : v.number ≡ number = (may.files.files number (fields_of v) has).own_number in
    let stages = may_from old v number may has in
    put_content old between new v w start bytes stages.here
    (stages.files.files v.number (fields_of v) stages.here) some g h
    ∙ ap (λ n. with_put n start bytes (content_of old)) own

-- ---- other attributes
module _ (old new : Parts) (v w : Inode) (a : Attrs) (has : record_of old v.number ≡ Some (fields_of v))
    (h : ChangesRecord v w old new)
    (changed : attributes w ≡ attributes_from v.number v.version a v.size) where
  attrs_file : file_at new v.number ≡ Some (file_of a (file_bytes (data_block (tree_of old v.number)) v.size))
  attrs_file =
      file_at-some new v.number (fields_of w) h.here
      ∙ ap (λ (x : Attributes). Some (file_of (stat_of x) (file_bytes (data_block (tree_of new v.number)) x.size)))
      changed
      ∙ ap (λ t. Some (file_of a (file_bytes (data_block t) v.size))) (h.blocks v.number)

  attrs_other : (n : ℕ) → n ≢ v.number → file_at new n ≡ file_at old n
  attrs_other n other =
      file_at-record new n ∙ ap (option_map (file_with (tree_of new n))) (h.others n other)
      ∙ ap (λ t. option_map (file_with t) (record_of old n)) (h.blocks n) ∙ sym (file_at-record old n)

  pub attrs_content : content_of new ≡ with_attrs v.number a (content_of old)
  attrs_content =
      let before : map.get (content_of old) v.number ≡ Some (file_with (tree_of old v.number) (fields_of v))
      = get-content_of old v.number ∙ file_at-some old v.number (fields_of v) has in
      let to : with_attrs v.number a (content_of old)
      ≡ map.insert (content_of old) v.number (file_of a (file_bytes (data_block (tree_of old v.number)) v.size))
      = ap (λ o. changed_at o v.number (λ (f : File). file_of a f.bytes) (content_of old)) before in
      same_map nat_cmp_total nat_cmp-IsAntisymmetric (content_of new) _ (λ q. elim (cases_eq q v.number) [
        | inl is ↦ ap (map.get (content_of new)) is ∙ get-content_of new v.number ∙ attrs_file
            ∙ sym (ap (map.get (with_attrs v.number a (content_of old))) is ∙ ap (λ c. map.get c v.number) to
            ∙ get-insert_same (content_of old) v.number _)
        | inr other ↦ get-content_of new q ∙ attrs_other q other ∙ sym (get-content_of old q)
            ∙ sym (ap (λ c. map.get c q) to ∙ get-insert_other (content_of old) v.number _ q other)
      ])

pub attrs_changed : (old new : Parts) (v w : Inode) (number : ℕ) (a : Attrs) → MayChange old number
    → record_of old number ≡ Some (fields_of v) → StagesRecord w old new
    → attributes w ≡ attributes_from v.number v.version a v.size → addresses w ≡ addresses v → ChangesRecord v w old new
attrs_changed old new v w number a may has h changed roots =
    let size : w.size ≡ v.size = ap (λ (x : Attributes). x.size) changed in
    record_changed old new v w (may_from old v number may has) h (ap (λ (x : Attributes). x.number) changed)
    (ap (λ (x : Attributes). x.version) changed) roots (omega arith)

pub attrs_shown : (old new : Parts) (v w : Inode) (number : ℕ) (a : Attrs) → MayChange old number → record_of old number
    ≡ Some (fields_of v) → StagesRecord w old new
    → attributes w ≡ attributes_from v.number v.version a v.size → addresses w ≡ addresses v → content_of new
    ≡ with_attrs number a (content_of old)
attrs_shown old new v w number a may has h changed roots =
    let own : v.number ≡ number = (may.files.files number (fields_of v) has).own_number in
    attrs_content old new v w a (ap (record_of old) own ∙ has)
    (attrs_changed old new v w number a may has h changed roots) changed
    ∙ ap (λ n. with_attrs n a (content_of old)) own
