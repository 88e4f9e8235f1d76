-- When a block landed, `AreFiles` holds still, the content is the same, and what else was LOCKED is so: `files_kept`,
-- `content_kept`, `frames_kept`, `frames_only`, for `landing::land_block`. By LandedLemmas each data block reads as
-- before, and the one address that changed is of a block within the size; the record that holds it has the same
-- attributes. For `Mirrors` the block is clean now and is what the log has at its new address, while the address of
-- every other clean block stayed.
use Rattle.std.proofs.Common.{true, ◌≡◌, ◌≢◌, ℕ, ◌/◌, ◌%◌, ◌<◌, ◌≤◌, ◌⊎◌, List, [], ◌∷◌, length, Some, IsSome, false}
use Rattle.std.proofs.Common.{is_some, refl, sym, ap, ◌∙◌, subst, inl, inr}
use Rattle.std.specs.Prelude.{slice_index}
use Rattle.std.proofs.lemmas.Bool.{cases_eq, cases_lt, false≢true}
use Rattle.std.proofs.lemmas.Option.{none-some, same_Some}
use Rattle.lfs_ifile.specs.declared.inode.InodeRow.{InodeRow}
use Rattle.lfs_ifile.specs.Tables.{row_at}
use Rattle.lfs_inodes.specs.declared.inode.Inode.{Inode}
use Rattle.lfs_inodes.specs.Attributes.{Attributes}
use Rattle.lfs_inodes.specs.Facts.{block_count}
use Rattle.lfs_inodes.specs.Reading.{AreFields, Fields, fields_of}
use Rattle.lfs_inodes.proofs.FieldLemmas.{AreFields-fields_of}
use Rattle.lfs_cache.specs.declared.key.Key.{Key}
use Rattle.lfs_cache.specs.Contents.{Contents, IsLocked, block_in}
use Rattle.lfs_cache.specs.Keys.{same_key}
use Rattle.lfs_cache.proofs.Entries.{same_cases, same_is}
use Rattle.lfs_segments.specs.Memory.{block_at}
use Rattle.lfs_log.specs.Parts.{IsParts}
use Rattle.lfs_bmap.specs.declared.blocks.FileBlock.{FileBlock}
use Rattle.lfs_bmap.specs.Blocks.{IsFileBlock, code_of, first_under}
use Rattle.lfs_bmap.specs.Pieces.{IsPadded}
use Rattle.lfs_bmap.specs.Reading.{address, data_block}
use Rattle.lfs_bmap.specs.Ways.{code_at, way_of}
use Rattle.lfs_bmap.proofs.WayLemmas.{way_of-code_of, way_of-known}
use Rattle.lfs_parts.specs.declared.parts.Parts.{Parts}
use Rattle.lfs_parts.specs.Files.{content_of}
use Rattle.lfs_staging.specs.Addressing.{StaysWaiting}
use Rattle.lfs_parts.specs.Store.{AreFiles, HolderWaits, IsBlockCode, IsFile, IsLogged, IsPresent, IsWithin, Mirrors}
use Rattle.lfs_parts.specs.View.{key_of, record_of, tree_of}
use Rattle.lfs_parts.proofs.CleanLemmas.{apart_present, coded_below, coded_block, logged_kept}
use Rattle.lfs_parts.proofs.FileLemmas.{record_of-past}
use Rattle.lfs_parts.proofs.SameLogLemmas.{used_low}
use Rattle.lfs_segwrite.proofs.LandedLemmas.{Steps, address_here, address_same, block_other, data_same, lands}
use Rattle.lfs_segwrite.proofs.LandedLemmas.{record_other, rows_all, version_same, waits_key}
use Rattle.lfs_parts.proofs.SameContentLemmas.{content_of-same, file_at-kept, file_at-same}
use Rattle.lfs_staging.proofs.SettingLemmas.{waiting_record}
use Rattle.lfs_bmap.proofs.BlockLemmas.{code_of-below}
use Rattle.lfs_staging.proofs.GivingLemmas.{within_apart}
use Rattle.lfs_staging.proofs.HolderLemmas.{holder_coded}

-- blocks that are the same are padded alike
padded_same : (old new : ℕ → List ℕ) (size : ℕ) → ((n : ℕ) → new n ≡ old n) → IsPadded old size → IsPadded new size
padded_same old new size same h = record {
  whole = λ n. ap length (same n) ∙ h.whole n;
  zeros = λ i past. ap (λ b. slice_index b (i % 512)) (same (i / 512)) ∙ h.zeros i past;
}

module _ (p r s q : Parts) (v : Inode) (block : FileBlock) (a i : ℕ) (up : List ℕ) (h : Steps p r s q v block a i up)
    (waited : up ≢ [] → IsSome ((tree_of p v.number).waits up))
    (files : AreFiles p) (stays : StaysWaiting p q v) (within : IsWithin block v.size) (parts : IsParts q.log) where
  rows : q.log.tables.rows ≡ p.log.tables.rows
  rows = rows_all p r s q v block a i up h

  number_after : stays.after.number ≡ v.number
  number_after = ap (λ (x : Attributes). x.number) stays.same

  record_here : record_of q v.number ≡ Some (fields_of stays.after)
  record_here = ap (record_of q) (sym number_after) ∙ waiting_record q stays.after stays.here

  in_volume : (number : ℕ) (f : Fields) → record_of q number ≡ Some f → number < length p.log.tables.rows
  in_volume number f is =
      elim (cases_lt number (length p.log.tables.rows)) [
        | inl low ↦ low
        | inr past ↦ absurd (none-some f (sym (record_of-past q number
            (subst (λ rs. length rs ≤ number) (sym rows) past)) ∙ is))
      ]

  present_after : (number version : ℕ) → IsPresent p number version → IsPresent q number version
  present_after number version was = record {
    in_use = ap (λ (rs : List InodeRow). (row_at rs number).used) rows ∙ was.in_use;
    at_version = was.at_version ∙ sym (ap (λ (rs : List InodeRow). (row_at rs number).version) rows);
  }

  -- a file that has blocks of its own at the addresses that they had
  file_after : (number : ℕ) (f g : Fields) → number < length p.log.tables.rows → IsFile p number f → f.attributes
      ≡ g.attributes
      → ((b : FileBlock) → IsFileBlock b → block_count f.attributes.size ≤ first_under b → (number ≢ v.number)
      ⊎ (code_of b ≢ code_of block)) → AreFields g → IsFile q number g
  file_after number f g low was same apart formed = record {
    formed = formed;
    own_number = sym (ap (λ (x : Attributes). x.number) same) ∙ was.own_number;
    own_version = sym (ap (λ (x : Attributes). x.version) same) ∙ was.own_version
        ∙ sym (version_same p r s q v block a i up h number);
    none_past = λ b is past.
        let from : block_count f.attributes.size ≤ first_under b =
        subst (λ (x : Attributes). block_count x.size ≤ first_under b) (sym same) past in
        ap (address (tree_of q number)) (sym (way_of-code_of b is))
        ∙ address_same p r s q v block a i up h waited number (code_of b) low (code_of-below b is) (apart b is from)
        ∙ ap (address (tree_of p number)) (way_of-code_of b is) ∙ was.none_past b is from;
    padded = subst (λ (x : Attributes). IsPadded (data_block (tree_of q number)) x.size) same
        (padded_same (data_block (tree_of p number)) (data_block (tree_of q number)) f.attributes.size
        (λ n. data_same p r s q v block a i up h waited number n low) was.padded);
  }

  files_after : (number : ℕ) (f : Fields) → record_of q number ≡ Some f → IsFile q number f
  files_after number f is =
      elim (cases_eq number v.number) [
        | inl e ↦
            let same : fields_of stays.after ≡ f = same_Some _ f (sym record_here ∙ ap (record_of q) (sym e) ∙ is) in
            subst (IsFile q number) same (file_after number (fields_of v) (fields_of stays.after)
            (in_volume number f is)
            (subst (λ n. IsFile p n (fields_of v)) (sym e)
            (files.files v.number (fields_of v) (waiting_record p v h.is))) (sym stays.same)
            (λ b can past. inr (within_apart block b v.size h.can can within past)) (AreFields-fields_of stays.after))
        | inr ne ↦
            let was = files.files number f (sym (record_other p r s q v block a i up h number ne) ∙ is) in
            file_after number f f (in_volume number f is) was refl (λ b can past. inl ne) was.formed
      ]

  -- what is locked was locked, or holds the address
  locked_cases : (key : Key) → IsLocked key q.cache → (IsLocked key p.cache)
      ⊎ ((up ≢ []) × (key_of v.number v.version (code_at up) ≡ key))
  locked_cases key locked =
      elim (same_cases (key_of v.number v.version (code_of block)) key) [
        | inl is ↦
            let e = same_is (key_of v.number v.version (code_of block)) key is in
            let none = ap (λ k. is_some (block_in k q.cache.locked)) (sym e) ∙ ap is_some h.gone in
            absurd (false≢true (sym none ∙ locked))
        | inr apart ↦ elim (same_cases (key_of v.number v.version (code_at up)) key) [
          | inl is ↦ parent_cases up refl (same_is (key_of v.number v.version (code_at up)) key is) apart
          | inr far ↦ inl (sym (ap is_some (waits_key p r s q v block a i up h key apart far)) ∙ locked)
        ]
      ]
    where
      parent_cases : (w : List ℕ) → w ≡ up → key_of v.number v.version (code_at up) ≡ key
          → same_key (key_of v.number v.version (code_of block)) key ≡ false
          → (IsLocked key p.cache) ⊎ ((up ≢ []) × (key_of v.number v.version (code_at up) ≡ key))
      parent_cases [] e is apart =
          inl (sym (ap is_some (h.kept key apart ∙ ap (λ (c : Contents). block_in key c.locked)
          (h.set.record_only (sym e)) ∙ ap (λ (c : Contents). block_in key c.locked) h.put.cache)) ∙ locked)
      parent_cases (j ∷ above) e is apart = inr (λ none. absurd (let bad : j ∷ above ≡ [] = e ∙ none in cc), is)

  -- what is clean was, or is the block that landed
  mirrors_kept : Mirrors q
  mirrors_kept = record {
    each = λ key bytes there.
        let k = key_of v.number v.version (code_of block) in
        let here : IsPresent p k.ino k.version = record { in_use = h.is.in_use; at_version = h.is.at_version } in
        elim (same_cases k key) [
          | inl is ↦
              let at = address_here p r s q v block a i up h waited in
              subst (λ x. IsLogged q x bytes) (same_is k key is) (record {
                present = present_after k.ino k.version here;
                coded = coded_block block h.can h.other;
                somewhere = λ none. h.put.somewhere (sym at ∙ none);
                same = h.own bytes (subst (λ x. block_in x q.cache.lru ≡ Some bytes) (sym (same_is k key is)) there)
                    ∙ sym (lands p r s q v block a i up h waited).written ∙ ap (block_at q.log.memory) (sym at);
              })
          | inr other ↦
              let was = files.mirrors.each key bytes
              (subst (λ (c : Contents). block_in key c.lru ≡ Some bytes) h.put.cache
              (h.set.clean.each key bytes (h.clean key bytes other there))) in
              let low = used_low p key.ino was.present.in_use in
              let below = coded_below key.lbn.0 was.coded in
              logged_kept p q key bytes was (present_after key.ino key.version was.present)
              (address_same p r s q v block a i up h waited key.ino key.lbn.0 low below
              (apart_present p k key here was.present other))
              (block_other p r s q v block a i up h (address (tree_of p key.ino) (way_of key.lbn.0))
              (h.put.unread key.ino low (way_of key.lbn.0) (way_of-known key.lbn.0 below)))
        ];
  }

  pub files_kept : AreFiles q
  files_kept = record {
    parts = parts;
    cache = stays.cache;
    reserved = λ number low other. ap (λ (rs : List InodeRow). (row_at rs number).used) rows
        ∙ files.reserved number low other;
    recorded = λ number used. elim (cases_eq number v.number) [
      | inl e ↦ ap is_some (ap (record_of q) e ∙ record_here)
      | inr ne ↦ ap is_some (record_other p r s q v block a i up h number ne)
          ∙ files.recorded number (sym (ap (λ (rs : List InodeRow). (row_at rs number).used) rows) ∙ used)
    ];
    files = files_after;
    records = stays.present;
    frames = λ key locked. elim (locked_cases key locked) [
      | inl was ↦ present_after key.ino key.version (files.frames key was)
      | inr parent ↦ present_after key.ino key.version
          (subst (λ (k : Key). IsPresent p k.ino k.version) parent.1
          (record { in_use = h.is.in_use; at_version = h.is.at_version }))
    ];
    coded = λ key locked. elim (locked_cases key locked) [
      | inl was ↦ files.coded key was
      | inr parent ↦
          subst (λ (k : Key). IsBlockCode k.lbn.0) parent.1 (holder_coded block h.can i up h.way parent.0)
    ];
    mirrors = mirrors_kept;
  }

  -- and the content is the same
  pub content_kept : content_of q ≡ content_of p
  content_kept =
      content_of-same p q (ap length rows) (λ number low. elim (cases_eq number v.number) [
        | inl e ↦
            file_at-same p q number (fields_of v) (fields_of stays.after) (ap (record_of p) e ∙ waiting_record p v h.is)
            (ap (record_of q) e ∙ record_here)
            stays.same (λ n. data_same p r s q v block a i up h waited number n low)
        | inr ne ↦ file_at-kept p q number (record_other p r s q v block a i up h number ne)
            (λ n. data_same p r s q v block a i up h waited number n low)
      ])

  -- what else was locked still is
  pub frames_kept : (key : Key) → same_key (key_of v.number v.version (code_of block)) key ≡ false
      → is_some (block_in key p.cache.locked) ≡ true → is_some (block_in key q.cache.locked) ≡ true
  frames_kept key apart was =
      elim (same_cases (key_of v.number v.version (code_at up)) key) [
        | inl is ↦ still up refl (same_is (key_of v.number v.version (code_at up)) key is)
        | inr far ↦ ap is_some (waits_key p r s q v block a i up h key apart far) ∙ was
      ]
    where
      still : (w : List ℕ) → w ≡ up → key_of v.number v.version (code_at up) ≡ key
          → is_some (block_in key q.cache.locked) ≡ true
      still [] e is =
          ap is_some (h.kept key apart ∙ ap (λ (c : Contents). block_in key c.locked) (h.set.record_only (sym e))
          ∙ ap (λ (c : Contents). block_in key c.locked) h.put.cache) ∙ was
      still (j ∷ above) e is =
          ap is_some (h.kept key apart) ∙ subst (λ k. is_some (block_in k s.cache.locked) ≡ true)
          (ap (λ w. key_of v.number v.version (code_at w)) e ∙ is)
          (subst (HolderWaits s.cache v.number v.version) (sym e) h.set.still)

  -- and nothing else is
  pub frames_only : HolderWaits p.cache v.number v.version up → (key : Key) → IsLocked key q.cache
      → IsLocked key p.cache
  frames_only waits key locked =
      elim (locked_cases key locked) [
        | inl was ↦ was
        | inr parent ↦ subst (λ k. IsLocked k p.cache) parent.1 (parent_locked up parent.0 waits)
      ]
    where
      parent_locked : (w : List ℕ) → w ≢ [] → HolderWaits p.cache v.number v.version w
          → IsLocked (key_of v.number v.version (code_at w)) p.cache
      parent_locked [] some waits = absurd (some refl)
      parent_locked (j ∷ above) some waits = waits
