-- Where one number is given out or taken back, every other file, frame and key stays: `files_still`, `staged_still`,
-- `log_still`, for NewFileLemmas and TakingLemmas. Rows and records that wait are looked up by number, so those of
-- others are the same; and the number itself has no block before or after (`HasNoBlock`), so none of its keys has a
-- place that could move. Clean blocks that are held must not be the number's either, which `files_still` asks for.
use Rattle.std.proofs.Common.{false, ◌≡◌, ◌≢◌, ℕ, ◌+◌, ◌*◌, ◌<◌, ◌≤◌, List, All, length, None, Some, IsSome, is_some}
use Rattle.std.proofs.Common.{option_and_then, option_map, true, refl, sym, ap, ◌∙◌, subst, inl, inr, arith}
use Rattle.std.specs.Prelude.{slice_index}
use Rattle.std.proofs.lemmas.Bool.{cases_eq}
use Rattle.lfs_ifile.specs.declared.inode.InodePlace.{InodePlace}
use Rattle.lfs_ifile.specs.declared.inode.InodeRow.{InodeRow}
use Rattle.lfs_ifile.specs.Inode.{place_in}
use Rattle.lfs_ifile.specs.Tables.{place_of, row_of}
use Rattle.lfs_inodes.specs.declared.inode.Inode.{Inode}
use Rattle.lfs_inodes.specs.Reading.{Fields}
use Rattle.lfs_cache.specs.declared.key.Key.{Key}
use Rattle.lfs_cache.specs.Changes.{IsContents}
use Rattle.lfs_cache.specs.Contents.{Contents, IsLocked, block_in}
use Rattle.lfs_segments.specs.Memory.{SegmentMemory, block_at}
use Rattle.lfs_log.specs.Parts as log
use Rattle.lfs_log.specs.Parts.{IsParts, LogParts, record_place}
use Rattle.lfs_types.specs.declared.limits.TheConstants.{FIRST_INODE, ROOT_INODE}
use Rattle.lfs_bmap.specs.declared.blocks.TheConstants.{BLOCK_CODES}
use Rattle.lfs_bmap.specs.Blocks.{code_of, way_to}
use Rattle.lfs_bmap.specs.Log.{IsLog}
use Rattle.lfs_bmap.specs.Pieces.{IsPadded}
use Rattle.lfs_bmap.specs.Reading.{address, data_block}
use Rattle.lfs_bmap.specs.Ways.{code_at, way_of}
use Rattle.lfs_bmap.proofs.LogLemmas.{written_log}
use Rattle.lfs_parts.specs.declared.records.TheConstants.{WAITING_LIMIT}
use Rattle.lfs_parts.specs.declared.parts.Parts.{Parts}
use Rattle.lfs_staging.specs.Changing.{StaysInLog}
use Rattle.lfs_parts.specs.Files.{file_at, file_with}
use Rattle.lfs_parts.specs.Keys.{log_state}
use Rattle.lfs_staging.proofs.OtherNumbers.{KeepsOthers}
use Rattle.lfs_staging.specs.Staging.{IsStaged}
use Rattle.lfs_parts.specs.Store.{AreFiles, HolderWaits, IsFile, IsLogged, IsPresent, ParentsWait}
use Rattle.lfs_parts.specs.View.{fields_at, key_of, record_of, root_in, tree_of, version_of, waiting_in, waiting_or}
use Rattle.lfs_parts.specs.Waiting.{AreOnce}
use Rattle.lfs_parts.proofs.CleanLemmas.{logged_kept}
use Rattle.lfs_parts.proofs.FileLemmas.{file_at-record}
use Rattle.lfs_parts.proofs.KeyLemmas.{place-block, place-record, unplaced}
use Rattle.lfs_parts.proofs.ViewLemmas.{not_locked, nowhere}
use Rattle.lfs_parts.proofs.SameLogLemmas.{place_in_row}

-- A number has no block: none of it waits, and its record, if it has one, has no address.
pub record HasNoBlock (p : Parts) (number : ℕ) : Type 0 where
  pub no_frame : (key : Key) → IsLocked key p.cache → key.ino ≢ number
  pub no_address : (i : ℕ) → slice_index (root_in (record_of p number)) i ≡ 0

-- ---- the log, where only the way in which places are said changes
pub log_at : (p : LogParts) (spare : ℕ) (was now : ℕ → ℕ → ℕ)
    → ((n c : ℕ) → n < length p.tables.rows → c < BLOCK_CODES → now n c ≡ was n c)
    → IsLog (log.log_state p was) spare → IsLog (log.log_state p now) spare
log_at p spare was now same h =
    let to = h.segments.to in
    let written = written_log (log.log_state p was) (log.log_state p now) spare 0 h (record {
      keys = record { numbers = refl; segments = refl; places = same; versions = λ n low. refl };
      used = record { states = λ s low. refl; clean = refl };
      live = λ s low. refl;
      active = refl;
      next = omega arith;
      room = omega arith;
      owners = λ place there. refl;
    }) in
    let none : spare + 512 * 0 ≡ spare = omega arith in
    subst (IsLog (log.log_state p now)) none written

-- ---- a number without blocks
module _ (p : Parts) (number : ℕ) (h : HasNoBlock p number) where
  pub none_waits : (way : List ℕ) → (tree_of p number).waits way ≡ None
  none_waits way =
      not_locked (key_of number (version_of p number) (code_at way)) p.cache
      (λ locked. h.no_frame (key_of number (version_of p number) (code_at way)) locked refl)

  pub none_addressed : (way : List ℕ) → address (tree_of p number) way ≡ 0
  none_addressed = nowhere (tree_of p number) h.no_address none_waits

  pub block_nowhere : (code : ℕ) → code ≢ 0 → (log_state p).at number code ≡ 0
  block_nowhere code some = place-block p number code some ∙ ap (λ a. 4 * a) (none_addressed (way_of code))

  pub all_nowhere : (row_of p.log.tables number).address ≡ 0 → (code : ℕ) → (log_state p).at number code ≡ 0
  all_nowhere none code = elim (cases_eq code 0) [
    | inl record_ ↦ ap ((log_state p).at number) record_ ∙ place-record p number ∙ unplaced p.log.tables number none
    | inr block ↦ block_nowhere code block
  ]

-- ---- the other numbers
module _ (number : ℕ) (old new : Parts) (h : KeepsOthers number old new) where
  pub other_version : (n : ℕ) → n ≢ number → version_of new n ≡ version_of old n
  other_version n other = ap (λ (r : InodeRow). r.version) (h.rows n other)

  pub other_used : (n : ℕ) → n ≢ number → (row_of new.log.tables n).used ≡ (row_of old.log.tables n).used
  other_used n other = ap (λ (r : InodeRow). r.used) (h.rows n other)

  pub other_record : (n : ℕ) → n ≢ number → record_of new n ≡ record_of old n
  unfolding record_of
  other_record n other =
      ap (option_and_then (λ (place : InodePlace). waiting_or (waiting_in new.waiting n)
      (fields_at new.log.memory place))) (ap place_in (h.rows n other))
      ∙ ap (λ w. option_and_then (λ (place : InodePlace). waiting_or w (fields_at new.log.memory place))
      (place_of old.log.tables n)) (h.waiting n other)
      ∙ ap (λ (m : SegmentMemory). option_and_then
      (λ (place : InodePlace). waiting_or (waiting_in old.waiting n) (fields_at m place))
      (place_of old.log.tables n)) h.memory

  pub other_tree : (n : ℕ) → n ≢ number → tree_of new n ≡ tree_of old n
  other_tree n other =
      let waits : (way : List ℕ) → (tree_of new n).waits way ≡ (tree_of old n).waits way
      = λ way. ap (λ (s : Contents). block_in (key_of n (version_of new n) (code_at way)) s.locked) h.cache
      ∙ ap (λ version. block_in (key_of n version (code_at way)) old.cache.locked) (other_version n other) in
      let blocks : (a : ℕ) → block_at new.log.memory a
      ≡ block_at old.log.memory a = λ a. ap (λ (m : SegmentMemory). block_at m a) h.memory in
      λ i. record { root = root_in (other_record n other i); waits = λ way. waits way i; block = λ a. blocks a i }

  pub other_file : (n : ℕ) → n ≢ number → file_at new n ≡ file_at old n
  other_file n other =
      file_at-record new n ∙ ap (λ t. option_map (file_with t) (record_of new n)) (other_tree n other)
      ∙ ap (option_map (file_with (tree_of old n))) (other_record n other) ∙ sym (file_at-record old n)

  pub other_present : (n version : ℕ) → n ≢ number → IsPresent old n version → IsPresent new n version
  other_present n version other was = record {
    in_use = other_used n other ∙ was.in_use;
    at_version = was.at_version ∙ sym (other_version n other);
  }

  pub other_is_file : (n : ℕ) (f : Fields) → n ≢ number → IsFile old n f → IsFile new n f
  other_is_file n f other was = record {
    formed = was.formed;
    own_number = was.own_number;
    own_version = was.own_version ∙ sym (other_version n other);
    none_past = λ block is past. ap (λ t. address t (way_to block)) (other_tree n other) ∙ was.none_past block is past;
    padded = subst (λ t. IsPadded (data_block t) f.attributes.size) (sym (other_tree n other)) was.padded;
  }

  -- no frame is of the number
  module _ (none : (key : Key) → IsLocked key old.cache → key.ino ≢ number) where
    still_locked : (key : Key) → IsLocked key new.cache → IsLocked key old.cache
    still_locked key locked = subst (IsLocked key) h.cache locked

    pub other_parents : ParentsWait old → ParentsWait new
    other_parents parents = record {
      records = λ key locked.
          let was = still_locked key locked in
          ap is_some (h.waiting key.ino (none key was)) ∙ parents.records key was;
      holders = λ key locked i up way.
          subst (λ (c : Contents). HolderWaits c key.ino key.version up) (sym h.cache)
          (parents.holders key (still_locked key locked) i up way);
    }

    pub files_still : AreFiles old → IsParts new.log
        → (number < FIRST_INODE → number ≢ ROOT_INODE → (row_of new.log.tables number).used ≡ false)
        → ((row_of new.log.tables number).used ≡ true → IsSome (record_of new number))
        → ((f : Fields) → record_of new number ≡ Some f → IsFile new number f)
        → All (λ (v : Inode). IsPresent new v.number v.version) new.waiting
        → ((key : Key) (bytes : List ℕ) → IsLogged old key bytes → key.ino ≢ number) → AreFiles new
    files_still files parts kept_free recorded here present apart = record {
      parts = parts;
      cache = subst IsContents (sym h.cache) files.cache;
      reserved = λ n low root. elim (cases_eq n number) [
        | inl is ↦ ap (λ m. (row_of new.log.tables m).used) is
            ∙ kept_free (subst (λ m. m < FIRST_INODE) is low) (λ e. root (is ∙ e))
        | inr other ↦ other_used n other ∙ files.reserved n low root
      ];
      recorded = λ n used. elim (cases_eq n number) [
        | inl is ↦ subst (λ m. IsSome (record_of new m)) (sym is)
            (recorded (ap (λ m. (row_of new.log.tables m).used) (sym is) ∙ used))
        | inr other ↦ ap is_some (other_record n other) ∙ files.recorded n (sym (other_used n other) ∙ used)
      ];
      files = λ n f at. elim (cases_eq n number) [
        | inl is ↦ subst (λ m. IsFile new m f) (sym is) (here f (ap (record_of new) (sym is) ∙ at))
        | inr other ↦ other_is_file n f other (files.files n f (sym (other_record n other) ∙ at))
      ];
      records = present;
      frames = λ key locked. let was = still_locked key locked in
          other_present key.ino key.version (none key was) (files.frames key was);
      coded = λ key locked. files.coded key (still_locked key locked);
      mirrors = record {
        each = λ key bytes there.
            let was = files.mirrors.each key bytes (subst (λ (c : Contents). block_in key c.lru
            ≡ Some bytes) h.cache there) in
            let other = apart key bytes was in
            logged_kept old new key bytes was (other_present key.ino key.version other was.present)
            (ap (λ t. address t (way_of key.lbn.0)) (other_tree key.ino other))
            (ap (λ (m : SegmentMemory). block_at m (address (tree_of old key.ino) (way_of key.lbn.0))) h.memory);
      };
    }

    pub staged_still : IsStaged old 0 → AreFiles new → IsLog (log_state new) 0 → AreOnce new.waiting
        → length new.waiting ≤ WAITING_LIMIT → IsStaged new 0
    staged_still staged files log_ once few = record {
      whole = files;
      log = log_;
      parents = other_parents staged.parents;
      once = once;
      few = few;
      within = λ n block f at is locked.
          let was = still_locked (key_of n (version_of new n) (code_of block)) locked in
          let other = none (key_of n (version_of new n) (code_of block)) was in
          staged.within n block f (sym (other_record n other) ∙ at) is
          (subst (λ version. IsLocked (key_of n version (code_of block)) old.cache) (other_version n other) was);
    }

  -- ---- the keys
  other_place : (n : ℕ) → n ≢ number → record_place new.log.tables n ≡ record_place old.log.tables n
  unfolding record_place
  other_place n other = ap place_in_row (h.rows n other)

  pub other_at : (n c : ℕ) → n ≢ number → (log_state new).at n c ≡ (log_state old).at n c
  other_at n c other = elim (cases_eq c 0) [
    | inl is ↦
        ap ((log_state new).at n) is ∙ place-record new n ∙ other_place n other ∙ sym (place-record old n)
        ∙ sym (ap ((log_state old).at n) is)
    | inr block ↦
        place-block new n c block ∙ ap (λ t. 4 * address t (way_of c)) (other_tree n other)
        ∙ sym (place-block old n c block)
  ]

  -- those of the number have no place: so the log has others' where they were
  module _ (nothing : (c : ℕ) → (log_state new).at number c ≡ 0) where
    pub stays_in_log : StaysInLog old new
    stays_in_log = record {
      memory = h.memory;
      states = h.states;
      clean = h.clean;
      numbers = h.numbers;
      moves = record {
        numbers = h.numbers;
        places = λ n c there within. sym (other_at n c
            (λ is. there.somewhere (ap (λ m. (log_state new).at m c) is ∙ nothing c)));
        versions = λ n c there within. sym (other_version n
            (λ is. there.somewhere (ap (λ m. (log_state new).at m c) is ∙ nothing c)));
      };
    }

    pub log_still : (at : ℕ → ℕ → ℕ) → ((c : ℕ) → at number c ≡ 0)
        → ((n c : ℕ) → n ≢ number → at n c ≡ (log_state old).at n c)
        → IsLog (log.log_state new.log at) 0 → IsLog (log_state new) 0
    log_still at none others =
        log_at new.log 0 at (log_state new).at (λ n c low below. elim (cases_eq n number) [
          | inl is ↦ ap (λ m. (log_state new).at m c) is ∙ nothing c ∙ sym (ap (λ m. at m c) is ∙ none c)
          | inr other ↦ other_at n c other ∙ sym (others n c other)
        ])
