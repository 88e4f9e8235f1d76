-- What is staged with the bytes that it has changes no file, and what is staged with others changes its own block
-- alone: `own_staged`, `table_again`, `data_again`, `data_kept`, for `stage_own_record`, `stage_with_parents`
-- and `stage_data`. Staging touches neither the log nor an address, so `IsLog` stays (`log_kept`); and a data block
-- stands on no other block's way, so other bytes in it show nowhere else. The hard clause is `ParentsWait`: the record
-- and the holder are staged before the block, and in another order `block_parents` falls.
use Rattle.std.proofs.Common.{◌≡◌, ◌≢◌, ◌⊎◌, ℕ, ◌+◌, ◌*◌, ◌/◌, ◌%◌, ◌<◌, ◌≤◌, List, [], ◌∷◌, All, length, Some, IsSome}
use Rattle.std.proofs.Common.{is_some, true, refl, sym, ap, ◌∙◌, subst, inl, inr, arith}
use Rattle.std.specs.Prelude.{slice_index}
use Rattle.std.proofs.lemmas.Option.{same_Some}
use Rattle.std.proofs.lemmas.Bool.{cases_eq, cases_lt}
use Rattle.std.proofs.lemmas.List.Elements.{All-cons}
use Rattle.lfs_ifile.specs.Tables.{row_of}
use Rattle.lfs_inodes.specs.declared.inode.Inode.{Inode}
use Rattle.lfs_inodes.specs.Facts.{block_count}
use Rattle.lfs_inodes.specs.Reading.{Fields, fields_of}
use Rattle.lfs_cache.specs.declared.key.Key.{Key}
use Rattle.lfs_cache.specs.Changes.{IsContents}
use Rattle.lfs_cache.specs.Contents.{Contents, IsLocked, block_in}
use Rattle.lfs_segments.specs.Log.{Expects}
use Rattle.lfs_segments.specs.Memory.{block_at}
use Rattle.lfs_log.specs.Parts.{LogParts}
use Rattle.lfs_bmap.specs.declared.blocks.FileBlock.{FileBlock}
use Rattle.lfs_bmap.specs.declared.blocks.FileBlock.TheVariants.{Record, Data}
use Rattle.lfs_bmap.specs.Blocks.{code_of, table_of, way_to}
use Rattle.lfs_bmap.specs.Pieces.{IsPadded}
use Rattle.lfs_bmap.specs.Reading.{SameReadings, Stages, address, data_block, read}
use Rattle.lfs_bmap.specs.Ways.{IsBlockWay, code_at, codes_on, way_of}
use Rattle.lfs_bmap.specs.Blocks.{IsFileBlock}
use Rattle.lfs_bmap.proofs.PlaceLemmas.{data_block-past, data_block-read, data_block-same}
use Rattle.lfs_bmap.proofs.ReadingLemmas.{SameReadings-refl, SameReadings-trans, data_leaf, read-waits}
use Rattle.lfs_bmap.proofs.ReadingLemmas.{staged_addresses, staged_bytes, staged_others, staged_same}
use Rattle.lfs_bmap.proofs.WayLemmas.{same_code, way_of-code_of, way_of-data, way_of-known}
use Rattle.lfs_parts.specs.declared.parts.Parts.{Parts}
use Rattle.lfs_staging.specs.Staging.{HasParents, IsStaged, IsZeroPast, MayStage, SameFiles, StagesBlock}
use Rattle.lfs_staging.specs.Staging.{StagesData, StagesOwnRecord, StagesParents, StagesRecord, StagesTable}
use Rattle.lfs_staging.specs.Staging.{TakesFrames, TakesOnly}
use Rattle.lfs_parts.specs.Store.{AreFiles, HolderWaits, IsBlockCode, IsPresent, IsStore, IsWithin}
use Rattle.lfs_parts.specs.Store.{ParentsWait}
use Rattle.lfs_parts.specs.View.{key_of, record_of, root_in, tree_of, version_of, waiting_in}
use Rattle.lfs_parts.specs.Waiting.{AreOnce, without}
use Rattle.lfs_parts.proofs.SameLogLemmas.{holder_kept}
use Rattle.lfs_staging.proofs.SettingLemmas.{holder_waits, some_there}
use Rattle.lfs_parts.proofs.SameLogLemmas.{present_kept, record_same, version-same}
use Rattle.lfs_parts.proofs.CleanLemmas.{coded_block, mirrors_log}
use Rattle.lfs_parts.proofs.HeldLemmas.{GainsNoClean-refl, GainsNoClean-same}
use Rattle.lfs_parts.proofs.ViewLemmas.{code_at-way_to}
use Rattle.lfs_parts.proofs.WaitingLemmas.{all_without, length-rest, once_staged, without-staged, waiting-head}
use Rattle.lfs_parts.proofs.WaitingLemmas.{waiting-staged}
use Rattle.lfs_staging.proofs.TakenLemmas.{block_takes, takes_none}
use Rattle.lfs_bmap.proofs.HolderLemmas.{codes_on-below, table_of-under, table_of-way}
use Rattle.std.specs.List.{Contains}
use Rattle.lfs_types.specs.declared.limits.TheConstants.{FILE_BLOCKS}
use Rattle.lfs_parts.proofs.SameLogLemmas.{block_known, log_kept, files_kept}

-- each block that waits lies within the size of its file
abbrev pub AllWithin : Parts → Type 0
AllWithin p = (number : ℕ) (block : FileBlock) (f : Fields) → record_of p number ≡ Some f → IsFileBlock block
    → IsLocked (key_of number (version_of p number) (code_of block)) p.cache → IsWithin block f.attributes.size

-- ---- the files
pub padded_same : (old new : ℕ → List ℕ) (size : ℕ) → IsPadded old size → ((n : ℕ) → new n ≡ old n) → IsPadded new size
padded_same old new size h same = record {
  whole = λ n. ap (λ (b : List ℕ). length b) (same n) ∙ h.whole n;
  zeros = λ i past. ap (λ b. slice_index b (i % 512)) (same (i / 512)) ∙ h.zeros i past;
}

pub padded_put : (old new : ℕ → List ℕ) (index size : ℕ) (bytes : List ℕ) → IsPadded old size
    → ((n : ℕ) → n ≢ index → new n ≡ old n) → new index ≡ bytes
    → length bytes ≡ 512 → IsZeroPast size index bytes → IsPadded new size
padded_put old new index size bytes h others here whole zeros = record {
  whole = λ n. elim (cases_eq n index) [
    | inl is ↦ ap (λ m. length (new m)) is ∙ ap (λ (b : List ℕ). length b) here ∙ whole
    | inr other ↦ ap (λ (b : List ℕ). length b) (others n other) ∙ h.whole n
  ];
  zeros = λ i past. elim (cases_eq (i / 512) index) [
    | inl is ↦ ap (λ m. slice_index (new m) (i % 512)) is ∙ ap (λ b. slice_index b (i % 512)) here
        ∙ zeros (i % 512) (omega arith) (omega arith)
    | inr other ↦ ap (λ b. slice_index b (i % 512)) (others (i / 512) other) ∙ h.zeros i past
  ];
}

-- the same files are well formed still
pub same_padded : (old new : Parts) → SameFiles old new → (n : ℕ) (f : Fields) → record_of old n ≡ Some f
    → IsPadded (data_block (tree_of old n)) f.attributes.size
    → IsPadded (data_block (tree_of new n)) f.attributes.size
same_padded old new same n f is h =
    padded_same (data_block (tree_of old n)) (data_block (tree_of new n)) f.attributes.size h
    (data_block-same (tree_of old n) (tree_of new n) (same.readings n))

pub SameFiles-trans : (a b c : Parts) → SameFiles a b → SameFiles b c → SameFiles a c
SameFiles-trans a b c p q = record {
  log = q.log ∙ p.log;
  records = λ n. q.records n ∙ p.records n;
  readings = λ n. SameReadings-trans (tree_of a n) (tree_of b n) (tree_of c n) (p.readings n) (q.readings n);
}

-- ---- a record waits
module _ (old new : Parts) (v : Inode) (h : StagesRecord v old new) where
  pub record_waits : IsSome (waiting_in new.waiting v.number)
  record_waits = ap (λ vs. is_some (waiting_in vs v.number)) h.waiting
      ∙ ap is_some (waiting-head v (without v.number old.waiting) v.number refl)

  pub record_parents : ParentsWait old → ParentsWait new
  record_parents parents = record {
    records = λ key locked. elim (cases_eq key.ino v.number) [
      | inl is ↦ subst (λ n. IsSome (waiting_in new.waiting n)) (sym is) record_waits
      | inr other ↦
          ap (λ vs. is_some (waiting_in vs key.ino)) h.waiting ∙ ap is_some (waiting-staged v old.waiting key.ino other)
          ∙ parents.records key (subst (IsLocked key) h.cache locked)
    ];
    holders = λ key locked i up way.
        subst (λ (c : Contents). HolderWaits c key.ino key.version up) (sym h.cache)
        (parents.holders key (subst (IsLocked key) h.cache locked) i up way);
  }

  pub record_room : without v.number new.waiting ≡ without v.number old.waiting
  record_room = ap (without v.number) h.waiting ∙ without-staged v (without v.number old.waiting)

  pub record_once : AreOnce old.waiting → AreOnce new.waiting
  record_once once = subst AreOnce (sym h.waiting) (once_staged v old.waiting once)

  -- each record that waits is of a number in use
  pub record_present : AreFiles old → IsPresent old v.number v.version
      → All (λ (w : Inode). IsPresent old w.number w.version) new.waiting
  record_present files present =
      subst (λ ws. All (λ (w : Inode). IsPresent old w.number w.version) ws) (sym h.waiting)
      (All-cons (λ (w : Inode). IsPresent old w.number w.version) v (without v.number old.waiting) present
      (all_without (λ (w : Inode). IsPresent old w.number w.version) old.waiting v.number files.records))

  -- the files have the addresses and the blocks that they had, where the record has the addresses
  pub record_trees : ((n : ℕ) → root_in (record_of new n) ≡ root_in (record_of old n)) → (n : ℕ) → tree_of new n
      ≡ tree_of old n
  record_trees roots n =
      let waits : (way : List ℕ) → (tree_of new n).waits way ≡ (tree_of old n).waits way
      = λ way. ap (λ (s : Contents). block_in (key_of n (version_of new n) (code_at way)) s.locked) h.cache
      ∙ ap (λ version. block_in (key_of n version (code_at way)) old.cache.locked) (version-same old new n h.log) in
      let blocks : (a : ℕ) → block_at new.log.memory a
      ≡ block_at old.log.memory a = λ a. ap (λ (l : LogParts). block_at l.memory a) h.log in
      λ i. record { root = roots n i; waits = λ way. waits way i; block = λ a. blocks a i }

-- ---- the record of a file waits with what it has
module _ (old new : Parts) (v : Inode) (h : StagesRecord v old new) (has : record_of old v.number
    ≡ Some (fields_of v)) where
  records_same : (n : ℕ) → record_of new n ≡ record_of old n
  records_same n = elim (cases_eq n v.number) [
    | inl is ↦ ap (record_of new) is ∙ h.here ∙ sym (ap (record_of old) is ∙ has)
    | inr other ↦ h.others n other
  ]

  pub files_same : SameFiles old new
  files_same = record {
    log = h.log;
    records = records_same;
    readings = λ n. subst (λ t. SameReadings (tree_of old n) t)
        (sym (record_trees old new v h (λ m. ap root_in (records_same m)) n)) (SameReadings-refl (tree_of old n));
  }

  pub record_files : AreFiles old → (row_of old.log.tables v.number).used ≡ true → AreFiles new
  record_files files used =
      let file = files.files v.number (fields_of v) has in
      let present : IsPresent old v.number v.version = record { in_use = used; at_version = file.own_version } in
      let same = files_same in
      files_kept old new files h.log records_same (λ n way known. (same.readings n).addresses way known)
      (same_padded old new same)
      (subst IsContents (sym h.cache) files.cache)
      (mirrors_log old new files.mirrors (GainsNoClean-same old.cache new.cache h.cache) h.log
      (λ n way known. (same.readings n).addresses way known))
      (record_present old new v h files present)
      (λ key locked. files.frames key (subst (IsLocked key) h.cache locked))
      (λ key locked. files.coded key (subst (IsLocked key) h.cache locked))

-- ---- a block waits
module _ (old new : Parts) (number : ℕ) (block : FileBlock) (bytes : List ℕ)
    (h : StagesBlock number block bytes old new) where
  pub block_records : (n : ℕ) → record_of new n ≡ record_of old n
  block_records n = record_same old new n h.log (ap (λ vs. waiting_in vs n) h.waiting)

  -- where the files are well formed still, so is the rest
  pub block_files : AreFiles old → IsPresent old number (version_of old number) → IsBlockCode (code_of block)
      → ((n : ℕ) (way : List ℕ) → IsBlockWay way → address (tree_of new n) way ≡ address (tree_of old n) way)
      → ((n : ℕ) (f : Fields) → record_of old n ≡ Some f → IsPadded (data_block (tree_of old n)) f.attributes.size
      → IsPadded (data_block (tree_of new n)) f.attributes.size)
      → AreFiles new
  block_files files present coded addresses padded =
      files_kept old new files h.log block_records addresses padded h.frames.formed
      (mirrors_log old new files.mirrors h.frames.clean h.log addresses)
      (subst (λ ws. All (λ (w : Inode). IsPresent old w.number w.version) ws) (sym h.waiting) files.records)
      (λ key locked. elim (h.frames.only key locked) [
        | inl is ↦ subst (λ (k : Key). IsPresent old k.ino k.version) (sym is) present
        | inr was ↦ files.frames key was
      ])
      (λ key locked. elim (h.frames.only key locked) [
        | inl is ↦ subst (λ (k : Key). IsBlockCode k.lbn.0) (sym is) coded
        | inr was ↦ files.coded key was
      ])

  -- and the parents of all that waits do
  pub block_parents : ParentsWait old → IsSome (waiting_in old.waiting number)
      → ((i : ℕ) (up : List ℕ) → way_of (code_of block) ≡ i ∷ up
      → HolderWaits old.cache number (version_of old number) up) → ParentsWait new
  block_parents parents record_there holder = record {
    records = λ key locked. ap (λ vs. is_some (waiting_in vs key.ino)) h.waiting ∙ (elim (h.frames.only key locked) [
      | inl is ↦ subst (λ (k : Key). IsSome (waiting_in old.waiting k.ino)) (sym is) record_there
      | inr was ↦ parents.records key was
    ]);
    holders = λ key locked i up way.
        holder_kept old.cache new.cache key.ino key.version up (λ code. h.frames.kept (key_of key.ino key.version code))
        (elim (h.frames.only key locked) [
          | inl is ↦
              subst (λ (k : Key). (i : ℕ) (up : List ℕ) → way_of k.lbn.0 ≡ i ∷ up
              → HolderWaits old.cache k.ino k.version up) (sym is) holder i up way
          | inr was ↦ parents.holders key was i up way
        ]);
  }

-- ---- a block waits with what it has
module _ (old new : Parts) (number : ℕ) (t : FileBlock) (can : IsFileBlock t)
    (h : StagesBlock number t (read (tree_of old number) (way_to t)) old new) where
  pub table_same : SameFiles old new
  table_same = record {
    log = h.log;
    records = block_records old new number t (read (tree_of old number) (way_to t)) h;
    readings = λ n. elim (cases_eq n number) [
      | inl is ↦ subst (λ m. SameReadings (tree_of old m) (tree_of new m)) (sym is)
          (staged_same (tree_of old number) (tree_of new number) (way_to t) (block_known t can) h.staged)
      | inr other ↦ subst (λ t. SameReadings (tree_of old n) t) (sym (h.others n other))
          (SameReadings-refl (tree_of old n))
    ];
  }

-- where it waits already, nothing changes
pub table_staged : (p : Parts) (number : ℕ) (t : FileBlock) → IsContents p.cache
    → IsLocked (key_of number (version_of p number) (code_of t)) p.cache
    → StagesBlock number t (read (tree_of p number) (way_to t)) p p
table_staged p number t formed locked =
    let there = some_there (block_in (key_of number (version_of p number) (code_of t)) p.cache.locked) locked in
    let waits : (tree_of p number).waits (way_to t) ≡ Some there.0
    = ap (λ c. block_in (key_of number (version_of p number) c) p.cache.locked) (code_at-way_to t) ∙ there.1 in
    record {
      log = refl;
      waiting = refl;
      staged = record {
        root = refl;
        waiting = waits ∙ ap Some (sym (read-waits (tree_of p number) (way_to t) there.0 waits));
        waits = λ other known ne. refl;
        blocks = λ b. refl;
      };
      others = λ n other. refl;
      frames = record {
        formed = formed;
        clean = GainsNoClean-refl p.cache;
        here = locked;
        kept = λ other waiting. waiting;
        only = λ other waiting. inr waiting;
        one_more = omega arith;
        none_more = λ _. refl;
      };
    }

-- ---- a data block waits
module _ (old new : Parts) (number index : ℕ) (bytes : List ℕ) (low : index < FILE_BLOCKS)
    (h : StagesBlock number (Data index) bytes old new) where
  staged_way : Stages (tree_of old number) (tree_of new number) (way_of (131 + index)) bytes
  staged_way = subst (λ w. Stages (tree_of old number) (tree_of new number) w bytes) (sym (way_of-data index)) h.staged

  pub data_here : data_block (tree_of new number) index ≡ bytes
  data_here =
      data_block-read (tree_of new number) index low
      ∙ staged_bytes (tree_of old number) (tree_of new number) (way_of (131 + index)) bytes
      (way_of-known (131 + index) (omega arith)) (data_leaf (131 + index) (omega arith)) staged_way

  data_other : (m : ℕ) → m ≢ index → data_block (tree_of new number) m ≡ data_block (tree_of old number) m
  data_other m other = elim (cases_lt m FILE_BLOCKS) [
    | inl inside ↦
        data_block-read (tree_of new number) m inside
        ∙ staged_others (tree_of old number) (tree_of new number) (way_of (131 + index)) bytes
        (way_of-known (131 + index) (omega arith)) (data_leaf (131 + index) (omega arith)) staged_way
        (way_of (131 + m)) (way_of-known (131 + m) (omega arith))
        (λ e. other (let same = same_code (131 + m) (131 + index) e in omega arith))
        ∙ sym (data_block-read (tree_of old number) m inside)
    | inr past ↦ data_block-past (tree_of new number) m past ∙ sym (data_block-past (tree_of old number) m past)
  ]

  pub data_others : (n m : ℕ) → (n ≢ number) ⊎ (m ≢ index) → data_block (tree_of new n) m ≡ data_block (tree_of old n) m
  data_others n m apart = elim (cases_eq n number) [
    | inl is ↦ elim apart [
      | inl other ↦ absurd (other is)
      | inr other ↦ subst (λ k. data_block (tree_of new k) m ≡ data_block (tree_of old k) m) (sym is)
          (data_other m other)
    ]
    | inr other ↦ ap (λ t. data_block t m) (h.others n other)
  ]

  pub data_addresses : (n : ℕ) (way : List ℕ) → IsBlockWay way → address (tree_of new n) way
      ≡ address (tree_of old n) way
  data_addresses n way known = elim (cases_eq n number) [
    | inl is ↦ subst (λ k. address (tree_of new k) way ≡ address (tree_of old k) way) (sym is)
        (staged_addresses (tree_of old number) (tree_of new number) (way_of (131 + index)) bytes
        (way_of-known (131 + index) (omega arith)) (data_leaf (131 + index) (omega arith)) staged_way way known)
    | inr other ↦ ap (λ t. address t way) (h.others n other)
  ]

  pub data_padded : length bytes ≡ 512 → (f : Fields) → record_of old number ≡ Some f
      → IsZeroPast f.attributes.size index bytes
      → (n : ℕ) (g : Fields) → record_of old n ≡ Some g → IsPadded (data_block (tree_of old n)) g.attributes.size
      → IsPadded (data_block (tree_of new n)) g.attributes.size
  data_padded whole f is zeros n g at padded = elim (cases_eq n number) [
    | inl same ↦
        let file : f ≡ g = same_Some f g (sym is ∙ ap (record_of old) (sym same) ∙ at) in
        padded_put (data_block (tree_of old n)) (data_block (tree_of new n)) index g.attributes.size bytes padded
        (λ m other. data_others n m (inr other)) (ap (λ k. data_block (tree_of new k) index) same ∙ data_here) whole
        (subst (λ (x : Fields). IsZeroPast x.attributes.size index bytes) file zeros)
    | inr other ↦
        padded_same (data_block (tree_of old n)) (data_block (tree_of new n)) g.attributes.size padded
        (λ m. data_others n m (inl other))
  ]

-- ---- a data block's parents wait
-- the record's address and version, as the number has them
pub may_present : (p : Parts) (v : Inode) → MayStage p v → IsPresent p v.number v.version
may_present p v may = record {
  in_use = may.in_use;
  at_version = (may.files.files v.number (fields_of v) may.here).own_version;
}

-- the record of a file waits, with what it has
pub own_staged : (old new : Parts) (v : Inode) → MayStage old v → StagesRecord v old new
    → StagesOwnRecord v.number old new
own_staged old new v may h = record {
  same = files_same old new v h may.here;
  cache = h.cache;
  files = record_files old new v h may.here may.files may.in_use;
  parents = record_parents old new v h may.parents;
  waits = record_waits old new v h;
  room = record_room old new v h;
  once = record_once old new v h;
}

-- a block whose address stands in the record has no other parent
pub parents_own : (old new : Parts) (number : ℕ) (block : FileBlock) → StagesOwnRecord number old new → table_of block
    ≡ Record → StagesParents number block old new
parents_own old new number block h top = record {
  same = h.same;
  files = h.files;
  parents = h.parents;
  waits = record {
    record_waits = h.waits;
    holder_waits = subst (λ t. HolderWaits new.cache number (version_of new number) (way_to t)) (sym top) tt;
  };
  room = h.room;
  once = h.once;
  stays = λ key locked. subst (IsLocked key) (sym h.cache) locked;
  takes = takes_none number (version_of old number) (codes_on (way_to (table_of block))) old.cache new.cache h.cache;
}

-- where a block waits, so does what a way that goes on from it asks for
holder_of : (c : Contents) (number version : ℕ) (t : FileBlock) → IsLocked (key_of number version (code_of t)) c
    → HolderWaits c number version (way_to t)
holder_of c number version t locked =
    holder_waits c number version (way_to t)
    (λ _. subst (λ code. IsLocked (key_of number version code) c) (sym (code_at-way_to t)) locked)

-- where what holds a block's address waits, so do all its parents
pub parents_wait : (p : Parts) (number : ℕ) (block : FileBlock) → AreFiles p → ParentsWait p
    → IsLocked (key_of number (version_of p number) (code_of (table_of block))) p.cache → StagesParents number block p p
parents_wait p number block files parents locked = record {
  same = record { log = refl; records = λ n. refl; readings = λ n. SameReadings-refl (tree_of p n) };
  files = files;
  parents = parents;
  waits = record {
    record_waits = parents.records (key_of number (version_of p number) (code_of (table_of block))) locked;
    holder_waits = holder_of p.cache number (version_of p number) (table_of block) locked;
  };
  room = refl;
  once = λ once. once;
  stays = λ key waits. waits;
  takes = λ key waits. inr waits;
}

-- a block and its parents wait
taken_block : (old between new : Parts) (number : ℕ) (block : FileBlock) (bytes : List ℕ) → IsFileBlock block
    → code_of block ≢ 0 → StagesParents number block old between
    → StagesBlock number block bytes between new → TakesFrames number block old new
taken_block old between new number block bytes can other h b = record {
  waits = record {
    record_waits = ap (λ vs. is_some (waiting_in vs number)) b.waiting ∙ h.waits.record_waits;
    holder_waits =
        let up = way_to (table_of block) in
        subst (λ n. HolderWaits new.cache number n up) (sym (version-same between new number b.log))
        (holder_kept between.cache new.cache number (version_of between number) up
        (λ code. b.frames.kept (key_of number (version_of between number) code)) h.waits.holder_waits);
  };
  stays = λ key locked. b.frames.kept key (h.stays key locked);
  takes = block_takes old between number block can other
      (version-same old between number h.same.log) h.takes new b.frames;
  records = ap (without number) b.waiting ∙ h.room;
  block_waits = subst (λ version. IsLocked (key_of number version (code_of block)) new.cache)
      (sym (version-same between new number b.log)) b.frames.here;
}

-- what a way to a block asks for, where its parents wait
pub parents_hold : (p : Parts) (number : ℕ) (block : FileBlock) → IsFileBlock block → HasParents p number block
    → (i : ℕ) (up : List ℕ) → way_of (code_of block) ≡ i ∷ up
    → HolderWaits p.cache number (version_of p number) up
parents_hold p number block can h i up way =
    subst (HolderWaits p.cache number (version_of p number))
    (table_of-way block can i up (sym (way_of-code_of block can) ∙ way)) h.holder_waits

-- ---- a block that holds addresses waits after its parents
module _ (old between new : Parts) (v : Inode) (t : FileBlock) (may : MayStage old v) (can : IsFileBlock t)
    (other : code_of t ≢ 0) (h : StagesParents v.number t old between)
    (b : StagesBlock v.number t (read (tree_of between v.number) (way_to t)) between new) where
  second : SameFiles between new
  second = table_same between new v.number t can b

  again_present : IsPresent between v.number (version_of between v.number)
  again_present =
      let present = present_kept old between v.number v.version h.same.log (may_present old v may) in
      record { in_use = present.in_use; at_version = refl }

  pub table_again : StagesTable v.number t old new
  table_again =
      let bytes = read (tree_of between v.number) (way_to t) in
      record {
        same = SameFiles-trans old between new h.same second;
        files = block_files between new v.number t bytes b h.files again_present (coded_block t can other)
            (λ n way known. (second.readings n).addresses way known) (same_padded between new second);
        parents = block_parents between new v.number t bytes b h.parents h.waits.record_waits
            (parents_hold between v.number t can h.waits);
        once = λ once. subst AreOnce (sym b.waiting) (h.once once);
        takes = taken_block old between new v.number t bytes can other h b;
      }

-- then the parents wait of each block whose address it holds
pub table_parents : (old new : Parts) (number : ℕ) (block : FileBlock) → StagesTable number (table_of block) old new
    → StagesParents number block old new
table_parents old new number block h = record {
  same = h.same;
  files = h.files;
  parents = h.parents;
  waits = record {
    record_waits = h.takes.waits.record_waits;
    holder_waits = holder_of new.cache number (version_of new number) (table_of block) h.takes.block_waits;
  };
  room = h.takes.records;
  once = h.once;
  stays = h.takes.stays;
  takes = h.takes.takes;
}

-- ---- and the data block
pub staged_data : (old between new : Parts) (number index : ℕ) (bytes : List ℕ) → index < FILE_BLOCKS
    → StagesParents number (Data index) old between
    → StagesBlock number (Data index) bytes between new → StagesData number index bytes old new
staged_data old between new number index bytes low h b = record {
  log = b.log ∙ h.same.log;
  records = λ n. block_records between new number (Data index) bytes b n ∙ h.same.records n;
  here = data_here between new number index bytes low b;
  others = λ n m apart.
      data_others between new number index bytes low b n m apart
      ∙ data_block-same (tree_of old n) (tree_of between n) (h.same.readings n) m;
  addresses = λ n way known.
      data_addresses between new number index bytes low b n way known ∙ (h.same.readings n).addresses way known;
  takes = taken_block old between new number (Data index) bytes low (λ e. omega arith) h b;
}

-- another block of the file may wait
pub data_again : (old between new : Parts) (v : Inode) (index : ℕ) (bytes : List ℕ) → index < FILE_BLOCKS
    → MayStage old v → StagesParents v.number (Data index) old between
    → StagesBlock v.number (Data index) bytes between new → length bytes ≡ 512 → IsZeroPast v.size index bytes
    → MayStage new v
data_again old between new v index bytes low may h b whole zeros =
    let present = present_kept old between v.number v.version h.same.log (may_present old v may) in
    let at : IsPresent between v.number (version_of between v.number) =
    record { in_use = present.in_use; at_version = refl } in
    let log = b.log ∙ h.same.log in
    let moved = staged_data old between new v.number index bytes low h b in
    record {
      files = block_files between new v.number (Data index) bytes b h.files at
          (coded_block (Data index) low (λ e. omega arith))
          (data_addresses between new v.number index bytes low b)
          (data_padded between new v.number index bytes low b whole (fields_of v) (h.same.records v.number
          ∙ may.here) zeros);
      parents = block_parents between new v.number (Data index) bytes b h.parents h.waits.record_waits
          (parents_hold between v.number (Data index) low h.waits);
      inside = record {
        each = λ block is.
            subst (λ n. address (tree_of new v.number) (way_to block) < n)
            (sym (ap (λ (l : LogParts). l.memory.segments * 64) log))
            (subst (λ a. a < old.log.memory.segments * 64)
            (sym (moved.addresses v.number (way_to block) (block_known block is))) (may.inside.each block is));
      };
      in_range = subst (λ n. v.number < n) (sym (ap (λ (l : LogParts). length l.tables.rows) log)) may.in_range;
      in_use = ap (λ (l : LogParts). (row_of l.tables v.number).used) log ∙ may.in_use;
      here = moved.records v.number ∙ may.here;
      records = subst (λ (vs : List Inode). length vs < 64)
          (sym (ap (without v.number) b.waiting ∙ h.room)) may.records;
    }

-- a block on the way of one that lies within the size does so too
pub table_within : (block : FileBlock) (size : ℕ) → IsWithin block size → IsWithin (table_of block) size
table_within block size within = let least = table_of-under block in omega arith

pub way_within : (block : FileBlock) (size : ℕ) → IsFileBlock block → IsWithin block size → (b : FileBlock)
    → IsFileBlock b → Contains (codes_on (way_to block)) (code_of b) → IsWithin b size
way_within block size can within b is has = let least = codes_on-below block can b is has in omega arith

-- what a change of one number takes on the way of a block lies within its size
pub taken_within : (old new : Parts) (v : Inode) (codes : List ℕ) → ((n : ℕ) → record_of new n ≡ record_of old n)
    → ((n : ℕ) → version_of new n ≡ version_of old n)
    → record_of old v.number ≡ Some (fields_of v)
    → ((b : FileBlock) → IsFileBlock b → Contains codes (code_of b) → IsWithin b v.size)
    → TakesOnly v.number (version_of old v.number) codes old.cache new.cache → AllWithin old → AllWithin new
taken_within old new v codes records version has inside takes was n block f is can locked =
    let is_old : record_of old n ≡ Some f = sym (records n) ∙ is in
    elim (takes (key_of n (version_of new n) (code_of block)) locked) [
      | inl one ↦
          let same : n ≡ v.number = ap (λ (k : Key). k.ino) one.2 in
          let code : code_of block ≡ one.0 = ap (λ (k : Key). k.lbn.0) one.2 in
          let file : fields_of v ≡ f = same_Some (fields_of v) f (sym has ∙ ap (record_of old) (sym same) ∙ is_old) in
          subst (λ (x : Fields). IsWithin block x.attributes.size) file
          (inside block can (subst (Contains codes) (sym code) one.1))
      | inr before ↦ was n block f is_old can (subst (λ m. IsLocked (key_of n m (code_of block)) old.cache)
          (version n) before)
    ]

pub data_within : (old between new : Parts) (v : Inode) (index : ℕ) (bytes : List ℕ) → index < FILE_BLOCKS
    → record_of old v.number ≡ Some (fields_of v) → index < block_count v.size
    → StagesParents v.number (Data index) old between → StagesBlock v.number (Data index) bytes between new
    → AllWithin old → AllWithin new
data_within old between new v index bytes low has within h b =
    let moved = staged_data old between new v.number index bytes low h b in
    taken_within old new v (codes_on (way_to (Data index))) moved.records (λ n. version-same old new n moved.log) has
    (way_within (Data index) v.size low within) moved.takes.takes

-- at most one record more waits than those of other numbers
pub few_records : (new : Parts) (number : ℕ) (others : List Inode) → without number new.waiting ≡ others
    → length others < 64 → length new.waiting ≤ 64
few_records new number others is few =
    let more = length-rest new.waiting number in
    let same : length (without number new.waiting) ≡ length others = ap (λ (vs : List Inode). length vs) is in
    omega arith

pub data_kept : (old between new : Parts) (v : Inode) (index : ℕ) (bytes : List ℕ) → index < FILE_BLOCKS
    → index < block_count v.size → MayStage old v
    → StagesParents v.number (Data index) old between → StagesBlock v.number (Data index) bytes between new
    → MayStage new v
    → (spare : ℕ) → IsStaged old spare → IsStaged new spare
data_kept old between new v index bytes low within may h b again spare staged =
    let moved = staged_data old between new v.number index bytes low h b in
    record {
      whole = again.files;
      log = log_kept old new spare moved.log moved.addresses staged.log;
      parents = again.parents;
      once = subst AreOnce (sym b.waiting) (h.once staged.once);
      few = few_records new v.number (without v.number old.waiting) moved.takes.records may.records;
      within = data_within old between new v index bytes low may.here within h b staged.within;
    }

-- ---- between calls
-- a store is staged
pub store_staged : (p : Parts) → IsStore p → IsStaged p 0
store_staged p store = record {
  whole = store.whole;
  log = store.log;
  parents = store.parents;
  once = store.once;
  few = store.few;
  within = store.within;
}

-- and what is staged is a store where the log goes on with a summary
pub staged_store : (p : Parts) → IsStaged p 0 → Expects p.log.memory [] → IsStore p
staged_store p staged ready = record {
  whole = staged.whole;
  log = staged.log;
  ready = ready;
  parents = staged.parents;
  once = staged.once;
  few = staged.few;
  within = staged.within;
}
