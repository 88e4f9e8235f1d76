-- Behind a block that was given back the parts are staged still and the rest of the file is what it was: `cleared`, for
-- GivenBackLemmas and so for `clear`. Of what waits the block alone is gone (`frames_only`, `frames_kept`), and
-- each data block is the same or zeros, so the file stays padded. The hard clause is `ParentsWait`: the block could
-- hold the address of one that waits, and doesn't because `MayClear` has what stands beneath it go before.
use Rattle.std.proofs.Common.{◌≡◌, ◌≢◌, ℕ, ◌+◌, ◌/◌, ◌%◌, ◌≤◌, ◌⊎◌, List, [], ◌∷◌, length, Some, IsSome, is_some, true}
use Rattle.std.proofs.Common.{false, refl, sym, ap, ◌∙◌, subst, inl, inr, arith}
use Rattle.std.specs.Prelude.{slice_index}
use Rattle.std.proofs.lemmas.Bool.{cases_eq, false≢true}
use Rattle.std.proofs.lemmas.Option.{none-some, same_Some}
use Rattle.std.proofs.lemmas.List.{length-map}
use Rattle.lfs_types.specs.Blocks.{zero_block}
use Rattle.lfs_ifile.specs.declared.inode.InodeRow.{InodeRow}
use Rattle.lfs_ifile.specs.Tables.{row_at}
use Rattle.lfs_inodes.specs.declared.inode.Inode.{Inode}
use Rattle.lfs_inodes.specs.Addresses.{addresses}
use Rattle.lfs_inodes.specs.Attributes.{Attributes}
use Rattle.lfs_inodes.specs.Facts.{block_count}
use Rattle.lfs_inodes.specs.Reading.{AreFields, Fields, fields_of}
use Rattle.lfs_inodes.proofs.FieldLemmas.{AreFields-fields_of}
use Rattle.lfs_cache.specs.declared.key.Key.{Key}
use Rattle.lfs_cache.specs.Contents.{Contents, IsLocked, block_in}
use Rattle.lfs_cache.specs.Keys.{same_key}
use Rattle.lfs_cache.proofs.Entries.{same_cases, same_is}
use Rattle.lfs_segments.specs.Memory.{SegmentMemory, block_at}
use Rattle.lfs_log.specs.Parts.{IsParts}
use Rattle.lfs_bmap.specs.declared.blocks.FileBlock.{FileBlock}
use Rattle.lfs_bmap.specs.declared.blocks.FileBlock.TheVariants.{Record, Single, Double, Child, Data}
use Rattle.lfs_bmap.specs.Blocks.{IsFileBlock, code_of, first_under, way_to}
use Rattle.lfs_bmap.specs.Log.{IsLog}
use Rattle.lfs_bmap.specs.Pieces.{IsPadded}
use Rattle.lfs_bmap.specs.Reading.{address, data_block}
use Rattle.lfs_bmap.specs.Ways.{IsBlockWay, code_at, way_of}
use Rattle.lfs_bmap.proofs.PieceLemmas.{zero_block-at}
use Rattle.lfs_bmap.proofs.WayLemmas.{code_at-way_of, known_way_of, up_known, way_of-code_of, way_of-known}
use Rattle.lfs_parts.specs.declared.records.TheConstants.{WAITING_LIMIT}
use Rattle.lfs_parts.specs.declared.parts.Parts.{Parts}
use Rattle.lfs_staging.specs.Cutting.{ClearsBlock, KeepsRest, MayClear}
use Rattle.lfs_parts.specs.Keys.{log_state}
use Rattle.lfs_staging.specs.Addressing.{StaysWaiting}
use Rattle.lfs_parts.specs.Waiting.{numbers_of}
use Rattle.lfs_staging.specs.Staging.{IsStaged}
use Rattle.lfs_parts.specs.Store.{AreFiles, HolderWaits, IsFile, IsPresent, IsWithin, Mirrors, ParentsWait}
use Rattle.lfs_parts.specs.View.{key_of, record_of, tree_of, version_of, waiting_in}
use Rattle.lfs_parts.proofs.CleanLemmas.{apart_present, coded_below, logged_kept}
use Rattle.lfs_staging.proofs.ClearedLemmas.{Steps, address_here, address_rest, address_same, data_same, moves}
use Rattle.lfs_staging.proofs.ClearedLemmas.{record_other, version_same, waits_key, zeros_here}
use Rattle.lfs_parts.proofs.FrameLemmas.{once_numbers}
use Rattle.lfs_staging.proofs.SettingLemmas.{waiting_record}
use Rattle.lfs_bmap.proofs.BlockLemmas.{code_of-below, same_block}
use Rattle.lfs_segments.proofs.MemoryLemmas.{length-zero_block}

-- a block within the size is none past it
pub within_apart : (block b : FileBlock) (size : ℕ) → IsFileBlock block → IsFileBlock b → IsWithin block size
    → block_count size ≤ first_under b → code_of b ≢ code_of block
within_apart block b size can is within past e = let same = ap first_under (same_block b block is can e) in omega arith

-- the data block with a code
data_of_code : (block : FileBlock) (k : ℕ) → IsFileBlock block → 131 + k ≡ code_of block → block ≡ Data k
data_of_code Record k can e = absurd (omega arith)
data_of_code Single k can e = absurd (omega arith)
data_of_code Double k can e = absurd (omega arith)
data_of_code (Child index) k can e = absurd (omega arith)
data_of_code (Data index) k can e = let same : index ≡ k = omega arith in ap Data same

-- blocks each of which is the same or zeros are padded alike
pub padded_zeroed : (old new : ℕ → List ℕ) (size : ℕ) → ((n : ℕ) → (new n ≡ old n) ⊎ (new n ≡ zero_block))
    → IsPadded old size → IsPadded new size
padded_zeroed old new size each h = record {
  whole = λ n. elim (each n) [
    | inl same ↦ ap length same ∙ h.whole n
    | inr none ↦ ap length none ∙ length-zero_block
  ];
  zeros = λ i past. elim (each (i / 512)) [
    | inl same ↦ ap (λ b. slice_index b (i % 512)) same ∙ h.zeros i past
    | inr none ↦ ap (λ b. slice_index b (i % 512)) none ∙ zero_block-at (i % 512)
  ];
}

-- what holds the block's address waits
pub parent_of : (p : Parts) (v : Inode) (block : FileBlock) → MayClear p v.number block → v.version
    ≡ version_of p v.number → (i : ℕ) (up : List ℕ) → way_to block ≡ i ∷ up → HolderWaits p.cache v.number v.version up
parent_of p v block may at i up e = subst (λ n. HolderWaits p.cache v.number n up) (sym at) (may.parent i up e)

-- no block has its address in it
pub beneath_of : (p : Parts) (number : ℕ) (block : FileBlock) → MayClear p number block → (i : ℕ) (up : List ℕ)
    → way_to block ≡ i ∷ up
    → (j : ℕ) → IsBlockWay (j ∷ i ∷ up) → address (tree_of p number) (j ∷ i ∷ up) ≡ 0
beneath_of p number block may i up e j known =
    ap (λ w. address (tree_of p number) (j ∷ w)) (sym e)
    ∙ (may.beneath j (subst (λ w. IsBlockWay (j ∷ w)) (sym e) known)).nowhere

module _ (p s q : Parts) (v : Inode) (block : FileBlock) (i : ℕ) (up : List ℕ) (h : Steps p s q v block i up)
    (may : MayClear p v.number block)
    (stays : StaysWaiting p q v) (parts : IsParts q.log) where
  files : AreFiles p
  files = may.staged.whole

  number_after : stays.after.number ≡ v.number
  number_after = ap (λ (x : Attributes). x.number) stays.same

  record_before : record_of p v.number ≡ Some (fields_of v)
  record_before = waiting_record p v h.is

  record_here : record_of q v.number ≡ Some (fields_of stays.after)
  record_here = ap (record_of q) (sym number_after) ∙ waiting_record q stays.after stays.here

  within : IsWithin block v.size
  within = may.within (fields_of v) record_before

  present_after : (number version : ℕ) → IsPresent p number version → IsPresent q number version
  present_after number version was = record {
    in_use = ap (λ (rs : List InodeRow). (row_at rs number).used) h.rows ∙ was.in_use;
    at_version = was.at_version ∙ sym (version_same p s q v block i up h number);
  }

  -- ---- frames
  parent_key : key_of v.number (version_of p v.number) (code_at up) ≡ key_of v.number v.version (code_at up)
  parent_key = ap (λ n. key_of v.number n (code_at up)) (sym h.is.at_version)

  -- what waits waited
  pub frames_only : (key : Key) → IsLocked key q.cache → IsLocked key p.cache
  frames_only key locked =
      elim (same_cases (key_of v.number v.version (code_of block)) key) [
        | inl is ↦
            let e = same_is (key_of v.number v.version (code_of block)) key is in
            absurd (false≢true (sym (ap (λ k. is_some (block_in k q.cache.locked)) (sym e) ∙ ap is_some h.gone)
            ∙ locked))
        | inr apart ↦ elim (same_cases (key_of v.number v.version (code_at up)) key) [
          | inl is ↦ parent up refl (same_is (key_of v.number v.version (code_at up)) key is) apart
          | inr far ↦ sym (ap is_some (waits_key p s q v block i up h key apart far)) ∙ locked
        ]
      ]
    where
      parent : (w : List ℕ) → w ≡ up → key_of v.number v.version (code_at up) ≡ key
          → same_key (key_of v.number v.version (code_of block)) key ≡ false → IsLocked key p.cache
      parent [] e is apart = sym (ap is_some (h.kept key apart
          ∙ ap (λ (c : Contents). block_in key c.locked) (h.set.record_only (sym e)))) ∙ locked
      parent (j ∷ above) e is apart =
          subst (λ k. IsLocked k p.cache) (parent_key ∙ is)
          (h.waited (λ none. let bad : j ∷ above ≡ [] = e ∙ none in cc))

  -- and all that waited does, but for the block
  pub frames_kept : (key : Key) → same_key (key_of v.number v.version (code_of block)) key ≡ false
      → IsLocked key p.cache → IsLocked key q.cache
  frames_kept key apart was =
      elim (same_cases (key_of v.number v.version (code_at up)) key) [
        | inl is ↦ still up refl (same_is (key_of v.number v.version (code_at up)) key is)
        | inr far ↦ ap is_some (waits_key p s q v block i up h key apart far) ∙ was
      ]
    where
      still : (w : List ℕ) → w ≡ up → key_of v.number v.version (code_at up) ≡ key → IsLocked key q.cache
      still [] e is = ap is_some (h.kept key apart
          ∙ ap (λ (c : Contents). block_in key c.locked) (h.set.record_only (sym e))) ∙ was
      still (j ∷ above) e is =
          ap is_some (h.kept key apart) ∙ subst (λ k. is_some (block_in k s.cache.locked) ≡ true)
          (ap (λ w. key_of v.number v.version (code_at w)) e ∙ is)
          (subst (HolderWaits s.cache v.number v.version) (sym e) h.set.still)

  -- ---- files
  file_after : (number : ℕ) (f g : Fields) → IsFile p number f → f.attributes ≡ g.attributes
      → ((b : FileBlock) → IsFileBlock b → block_count f.attributes.size ≤ first_under b → (number ≢ v.number)
      ⊎ (code_of b ≢ code_of block)) → AreFields g → IsFile q number g
  file_after number f g was same apart formed = record {
    formed = formed;
    own_number = sym (ap (λ (x : Attributes). x.number) same) ∙ was.own_number;
    own_version = sym (ap (λ (x : Attributes). x.version) same) ∙ was.own_version
        ∙ sym (version_same p s q v block i up h number);
    none_past = λ b is past.
        let from : block_count f.attributes.size ≤ first_under b =
        subst (λ (x : Attributes). block_count x.size ≤ first_under b) (sym same) past in
        ap (address (tree_of q number)) (sym (way_of-code_of b is))
        ∙ address_same p s q v block i up h number (code_of b) (code_of-below b is) (apart b is from)
        ∙ ap (address (tree_of p number)) (way_of-code_of b is) ∙ was.none_past b is from;
    padded = subst (λ (x : Attributes). IsPadded (data_block (tree_of q number)) x.size) same
        (padded_zeroed (data_block (tree_of p number)) (data_block (tree_of q number)) f.attributes.size
        (λ n. elim (cases_eq number v.number) [
          | inl e ↦ elim (cases_eq (131 + n) (code_of block)) [
            | inl is ↦ inr (ap (λ m. data_block (tree_of q m) n) e
                ∙ zeros_here p s q v block i up h n (data_of_code block n h.can is))
            | inr ne ↦ inl (data_same p s q v block i up h number n (inr ne))
          ]
          | inr ne ↦ inl (data_same p s q v block i up h number n (inl ne))
        ]) was.padded);
  }

  files_after : (number : ℕ) (f : Fields) → record_of q number ≡ Some f → IsFile q number f
  files_after number f is =
      elim (cases_eq number v.number) [
        | inl e ↦
            let same : fields_of stays.after ≡ f = same_Some _ f (sym record_here ∙ ap (record_of q) (sym e) ∙ is) in
            subst (IsFile q number) same (file_after number (fields_of v) (fields_of stays.after)
            (subst (λ n. IsFile p n (fields_of v)) (sym e) (files.files v.number (fields_of v) record_before))
            (sym stays.same)
            (λ b can past. inr (within_apart block b v.size h.can can within past)) (AreFields-fields_of stays.after))
        | inr ne ↦
            let was = files.files number f (sym (record_other p s q v block i up h number ne) ∙ is) in
            file_after number f f was refl (λ b can past. inl ne) was.formed
      ]

  -- what is clean was, and is no block that was given back
  mirrors_after : Mirrors q
  mirrors_after = record {
    each = λ key bytes there.
        let k = key_of v.number v.version (code_of block) in
        let was = files.mirrors.each key bytes (h.set.clean.each key bytes (h.clean.each key bytes there)) in
        let at : address (tree_of q key.ino) (way_of key.lbn.0)
        ≡ address (tree_of p key.ino) (way_of key.lbn.0) = elim (same_cases k key) [
          | inl is ↦ absurd (none-some bytes (sym h.unclean
              ∙ subst (λ x. block_in x q.cache.lru ≡ Some bytes) (sym (same_is k key is)) there))
          | inr other ↦ address_same p s q v block i up h key.ino key.lbn.0 (coded_below key.lbn.0 was.coded)
              (apart_present p k key (record { in_use = h.is.in_use; at_version = h.is.at_version }) was.present other)
        ] in
        logged_kept p q key bytes was (present_after key.ino key.version was.present) at
        (ap (λ (m : SegmentMemory). block_at m (address (tree_of p key.ino) (way_of key.lbn.0))) h.memory);
  }

  whole_after : AreFiles q
  whole_after = record {
    parts = parts;
    cache = stays.cache;
    reserved = λ number low other. ap (λ (rs : List InodeRow). (row_at rs number).used) h.rows
        ∙ files.reserved number low other;
    recorded = λ number used. elim (cases_eq number v.number) [
      | inl e ↦ ap is_some (ap (record_of q) e ∙ record_here)
      | inr ne ↦ ap is_some (record_other p s q v block i up h number ne)
          ∙ files.recorded number (sym (ap (λ (rs : List InodeRow). (row_at rs number).used) h.rows) ∙ used)
    ];
    files = files_after;
    records = stays.present;
    frames = λ key locked. present_after key.ino key.version (files.frames key (frames_only key locked));
    coded = λ key locked. files.coded key (frames_only key locked);
    mirrors = mirrors_after;
  }

  -- ---- what waits
  record_waits : IsSome (waiting_in q.waiting v.number)
  record_waits = ap (λ n. is_some (waiting_in q.waiting n)) (sym number_after) ∙ ap is_some stays.here.waits

  parents_after : ParentsWait q
  parents_after = record {
    records = λ key locked. elim (cases_eq key.ino v.number) [
      | inl e ↦ ap (λ n. is_some (waiting_in q.waiting n)) e ∙ record_waits
      | inr ne ↦ ap is_some (stays.others key.ino ne) ∙ may.staged.parents.records key (frames_only key locked)
    ];
    holders = holders_after;
  }
    where
      -- the block that went held the address of none that waits
      apart : (key : Key) → IsLocked key p.cache → (k j : ℕ) (above : List ℕ) → way_of key.lbn.0 ≡ k ∷ j ∷ above
          → same_key (key_of v.number v.version (code_of block)) (key_of key.ino key.version (code_at (j ∷ above)))
          ≡ false
      apart key was k j above way =
          elim (same_cases (key_of v.number v.version (code_of block))
          (key_of key.ino key.version (code_at (j ∷ above)))) [
            | inr other ↦ other
            | inl same ↦
                let e = same_is (key_of v.number v.version (code_of block))
                (key_of key.ino key.version (code_at (j ∷ above))) same in
                let number : key.ino ≡ v.number = sym (ap (λ (x : Key). x.ino) e) in
                let below = coded_below key.lbn.0 (files.coded key was) in
                let known : IsBlockWay (k ∷ j ∷ above) = subst IsBlockWay way (way_of-known key.lbn.0 below) in
                let up_is : way_to block ≡ j ∷ above = sym (way_of-code_of block may.can)
                ∙ ap way_of (ap (λ (x : Key). x.lbn.0) e) ∙ known_way_of (j ∷ above) (up_known k (j ∷ above) known) in
                let gone = may.beneath k (subst (λ w. IsBlockWay (k ∷ w)) (sym up_is) known) in
                let version : key.version ≡ version_of p v.number = (files.frames key was).at_version
                ∙ ap (version_of p) number in
                let code : key.lbn.0 ≡ code_at (k ∷ way_to block) = sym (code_at-way_of key.lbn.0) ∙ ap code_at way
                ∙ ap (λ w. code_at (k ∷ w)) (sym up_is) in
                let there : key ≡ key_of v.number (version_of p v.number) (code_at (k ∷ way_to block)) =
                λ n. key_of (number n) (version n) (code n) in
                absurd (gone.free (subst (λ x. IsLocked x p.cache) there was))
          ]

      holders_after : (key : Key) → IsLocked key q.cache → (k : ℕ) (above : List ℕ) → way_of key.lbn.0 ≡ k ∷ above
          → HolderWaits q.cache key.ino key.version above
      holders_after key locked k [] way = tt
      holders_after key locked k (j ∷ above) way =
          let was = frames_only key locked in
          frames_kept (key_of key.ino key.version (code_at (j ∷ above))) (apart key was k j above way)
          (may.staged.parents.holders key was k (j ∷ above) way)

  as_many : length q.waiting ≡ length p.waiting
  as_many =
      let same : length (numbers_of q.waiting) ≡ length (numbers_of p.waiting) = ap length stays.numbers in
      let new = length-map q.waiting (λ (x : Inode). x.number) in
      let old = length-map p.waiting (λ (x : Inode). x.number) in
      omega arith

  few_after : length q.waiting ≤ WAITING_LIMIT
  few_after = let same = as_many in let few = may.staged.few in omega arith

  within_after : (number : ℕ) (b : FileBlock) (f : Fields) → record_of q number ≡ Some f → IsFileBlock b
      → IsLocked (key_of number (version_of q number) (code_of b)) q.cache → IsWithin b f.attributes.size
  within_after number b f is can locked =
      let was = subst (λ n. IsLocked (key_of number n (code_of b)) p.cache) (version_same p s q v block i up h number)
      (frames_only (key_of number (version_of q number) (code_of b)) locked) in
      elim (cases_eq number v.number) [
        | inl e ↦
            let same : fields_of stays.after ≡ f = same_Some _ f (sym record_here ∙ ap (record_of q) (sym e) ∙ is) in
            subst (λ (x : Attributes). IsWithin b x.size) (sym stays.same ∙ ap (λ (g : Fields). g.attributes) same)
            (may.staged.within number b (fields_of v) (ap (record_of p) e ∙ record_before) can was)
        | inr ne ↦ may.staged.within number b f (sym (record_other p s q v block i up h number ne) ∙ is) can was
      ]

  pub staged_after : IsLog (log_state q) 0 → IsStaged q 0
  staged_after log = record {
    whole = whole_after;
    log = log;
    parents = parents_after;
    once = once_numbers p.waiting q.waiting stays.numbers may.staged.once;
    few = few_after;
    within = within_after;
  }

  pub rest_after : q.log.tables.states ≡ p.log.tables.states → q.log.clean ≡ p.log.clean → KeepsRest v.number p q
  rest_after states clean = record {
    log = record {
      memory = h.memory;
      states = states;
      clean = clean;
      numbers = ap length h.rows;
      moves = moves p s q v block i up h;
    };
    rows = h.rows;
    others = record_other p s q v block i up h;
    attributes = λ f is. record {
      addresses = addresses stays.after;
      there = record_here ∙ ap (λ (x : Attributes). Some (record { attributes = x; addresses = addresses stays.after }))
          (stays.same ∙ ap (λ (g : Fields). g.attributes) (same_Some (fields_of v) f (sym record_before ∙ is)));
    };
    waits = record_waits;
    other_records = stays.others;
    many = let same = as_many in omega arith;
  }

  pub cleared : IsLog (log_state q) 0 → q.log.tables.states ≡ p.log.tables.states → q.log.clean ≡ p.log.clean
      → ClearsBlock v.number block p q
  cleared log states clean =
      let key : key_of v.number (version_of p v.number) (code_of block)
      ≡ key_of v.number v.version (code_of block) =
      ap (λ n. key_of v.number n (code_of block)) (sym h.is.at_version) in
      record {
        staged = staged_after log;
        rest = rest_after states clean;
        nowhere = ap (address (tree_of q v.number)) h.way ∙ address_here p s q v block i up h;
        free = λ locked. false≢true (sym (ap is_some h.gone) ∙ subst (λ k. IsLocked k q.cache) key locked);
        addresses = λ way there ne. address_rest p s q v block i up h way there (λ e. ne (e ∙ sym h.way));
        only = frames_only;
        kept = λ other apart was. frames_kept other (subst (λ k. same_key k other ≡ false) key apart) was;
        data_same = data_same p s q v block i up h;
      }
