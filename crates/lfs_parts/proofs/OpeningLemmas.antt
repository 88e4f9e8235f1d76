-- A volume just laid out is a store that has the root directory alone: `opening_store` and `opening_shown`, for
-- `Parts::format`, and `root_entered` for `enter_root`. The log is the empty one with 128 spare bytes, where the root's
-- record takes place 8 by `taken_log`; no other key has an address, so every block reads as zeros. Place 8 is slot 0 of
-- block 2, behind the label and a summary: another layout of the first blocks changes `HasRootBlock` and the numbers
-- here.
use Rattle.std.proofs.Common.{◌≡◌, ◌≢◌, ℕ, ◌+◌, ◌*◌, ◌/◌, ◌%◌, ◌<◌, ◌≤◌, List, All, length, Option, None, Some}
use Rattle.std.proofs.Common.{option_map, is_some, refl, sym, ap, ◌∙◌, subst, inl, inr, arith}
use Rattle.std.specs.Prelude.{replicate, slice_index, slice_index_or}
use Rattle.std.specs.Cmp.{nat_cmp_total}
use Rattle.std.specs.Ordering.{nat_cmp}
use Rattle.std.specs.FinMap as map
use Rattle.std.specs.FinMap.{get-empty, same_map, nat_cmp-IsAntisymmetric}
use Rattle.std.proofs.lemmas.Bool.{cases_eq, cases_lt, cond-true, cond-false, eq-eqb, ne_eqb, false≢true}
use Rattle.std.proofs.lemmas.List.{get_or-replicate, get_or-set_other, get_or-set_same, get_or_past, length-replicate}
use Rattle.std.proofs.lemmas.List.{length-set}
use Rattle.lfs_ifile.specs.declared.segment.SegState.TheVariants.{Clean, Active}
use Rattle.std.proofs.lemmas.Option.{none-some, same_Some}
use Rattle.lfs_types.specs.Blocks.{zero_block}
use Rattle.lfs_types.specs.Tree.{fresh_root, opening_content}
use Rattle.lfs_types.specs.declared.limits.TheConstants.{FILE_BLOCKS}
use Rattle.lfs_types.proofs.Maps.{get-insert_same, get-insert_other}
use Rattle.lfs_ifile.specs.declared.inode.InodePlace.{InodePlace}
use Rattle.lfs_ifile.specs.declared.inode.InodeRow.{InodeRow}
use Rattle.lfs_ifile.specs.Inode.{fresh_row, given_row, place_in, placed_row, raised_version}
use Rattle.lfs_ifile.specs.Tables.{Tables, place_of, row_of, with_row}
use Rattle.lfs_inodes.specs.declared.inode.Inode.{Inode}
use Rattle.lfs_inodes.specs.Reading.{Fields, AreFields, fields_in}
use Rattle.lfs_inodes.proofs.ZeroedLemmas.{slice_index-zeros}
use Rattle.lfs_cache.specs.declared.key.Key.{Key}
use Rattle.lfs_cache.specs.Changes.{IsContents}
use Rattle.lfs_cache.specs.Contents.{Contents, IsLocked, block_in}
use Rattle.lfs_inodes.specs.Slots.{slot_of}
use Rattle.lfs_segments.specs.Memory.{SegmentMemory, block_at}
use Rattle.lfs_log.specs.Names.{record_in, record_key}
use Rattle.lfs_log.specs.Parts.{IsParts, LogParts, live_of, record_place}
use Rattle.lfs_log.proofs.NameLemmas.{named_at-record}
use Rattle.lfs_bmap.specs.Counting.{placed, weight_of}
use Rattle.lfs_bmap.specs.Log.{LogState, IsLog, IsEmptyLog, Assigns}
use Rattle.lfs_bmap.specs.Pieces.{IsPadded, file_bytes}
use Rattle.lfs_bmap.specs.Reading.{address, data_block}
use Rattle.lfs_bmap.specs.Ways.{code_at, data_way, way_of}
use Rattle.lfs_bmap.proofs.CountingLemmas.{placed-cases, weight-none, weight-here, weight-elsewhere}
use Rattle.lfs_bmap.proofs.LogLemmas.{taken_log, MayTake}
use Rattle.lfs_bmap.proofs.PieceLemmas.{zero_block-at}
use Rattle.lfs_bmap.proofs.PlaceLemmas.{data_block-past}
use Rattle.lfs_bmap.proofs.SegmentLemmas.{empty_log}
use Rattle.lfs_parts.specs.declared.parts.Parts.{Parts}
use Rattle.lfs_parts.specs.Files.{content_of, file_at}
use Rattle.lfs_parts.specs.Keys.{log_state}
use Rattle.lfs_parts.specs.Opening.{IsOpeningWith, fresh_used, HasRootRow, inodes_entry, root_fields, root_row}
use Rattle.lfs_parts.specs.Store.{AreFiles, IsFile, IsPresent, IsStore}
use Rattle.lfs_parts.specs.View.{key_of, record_of, root_in, tree_of, version_of, waiting_in}
use Rattle.lfs_parts.proofs.CleanLemmas.{mirrors_none}
use Rattle.lfs_parts.proofs.FileLemmas.{file_at-none, file_at-some, get-content_of}
use Rattle.lfs_parts.proofs.KeyLemmas.{place-block, place-record}
use Rattle.lfs_parts.proofs.ReadLemmas.{data_block-read, no_bytes}
use Rattle.lfs_parts.proofs.ViewLemmas.{all_zeros, nowhere, record_of-logged, record_of-unused}
use Rattle.lfs_parts.proofs.WaitingLemmas.{none_once}
use Rattle.lfs_bmap.specs.Blocks.{way_to}
use Rattle.lfs_segments.proofs.MemoryLemmas.{length-zero_block}
use Rattle.lfs_parts.proofs.SameLogLemmas.{place_in_row}

-- one of a list of the same ones, or past it
all_clean : (n k : ℕ) → slice_index_or (replicate n Clean) k Clean ≡ Clean
all_clean n k = elim (cases_lt k n) [
  | inl low ↦ get_or-replicate n k Clean Clean low
  | inr past ↦ get_or_past (replicate n Clean) k Clean (omega (arith, length-replicate n Clean))
]

all_fresh : (n k : ℕ) → slice_index_or (replicate n fresh_row) k fresh_row ≡ fresh_row
all_fresh n k = elim (cases_lt k n) [
  | inl low ↦ get_or-replicate n k fresh_row fresh_row low
  | inr past ↦ get_or_past (replicate n fresh_row) k fresh_row (omega (arith, length-replicate n fresh_row))
]

pub fresh_version : (n : ℕ) → raised_version (slice_index_or (replicate n fresh_row) 2 fresh_row).version ≡ 1
fresh_version n = ap (λ (r : InodeRow). raised_version r.version) (all_fresh n 2)

pub record_place-row : (tables : Tables) (number : ℕ) (row : InodeRow) → row_of tables number ≡ row
    → record_place tables number ≡ place_in_row row
unfolding record_place
record_place-row tables number row is = ap place_in_row is

-- the root's record where it was written
root_in_slot : (m : SegmentMemory) → fields_in (slot_of (block_at m 2) 0) ≡ Some (root_fields 1)
    → record_in (block_at m 2) 0 ≡ Some (2, 1)
unfolding record_in
root_in_slot m root = ap (option_map record_key) root

-- where the root's record stands
abbrev root_place : InodePlace
root_place = record { addr = 2; slot = 0; version = 1 }

module _ (serial : Option ℕ) (segments inodes frames : ℕ) (p : Parts)
    (h : IsOpeningWith serial segments inodes frames p) where
  -- ---- records
  root_used : place_of p.log.tables 2 ≡ Some root_place
  root_used = ap place_in h.tables.root

  root_record : record_of p 2 ≡ Some (root_fields 1)
  root_record = record_of-logged p 2 root_place root_used (ap (λ vs. waiting_in vs 2) h.no_record) ∙ h.memory.root

  no_record_at : (number : ℕ) → number ≢ 2 → record_of p number ≡ None
  no_record_at number other = record_of-unused p number (ap place_in (h.tables.others number other))

  -- a number that has a record is the root's, and has the root's record
  one_record : (number : ℕ) (f : Fields) → record_of p number ≡ Some f → (number ≡ 2) × (f ≡ root_fields 1)
  one_record number f is =
      elim (cases_eq number 2) [
        | inl root ↦ (root, same_Some f (root_fields 1) (sym is ∙ ap (record_of p) root ∙ root_record))
        | inr other ↦ absurd (none-some f (sym (no_record_at number other) ∙ is))
      ]

  -- ---- addresses
  none_waits : (number : ℕ) (way : List ℕ) → (tree_of p number).waits way ≡ None
  none_waits number way = ap (λ (c : Contents). block_in (key_of number (version_of p number) (code_at way)) c.locked)
      h.cache

  no_root : (number i : ℕ) → slice_index (tree_of p number).root i ≡ 0
  no_root number i =
      elim (cases_eq number 2) [
        | inl root ↦ ap (λ r. slice_index (root_in r) i) (ap (record_of p) root ∙ root_record) ∙ slice_index-zeros 14 i
        | inr other ↦ ap (λ r. slice_index (root_in r) i) (no_record_at number other)
      ]

  no_address : (number : ℕ) (way : List ℕ) → address (tree_of p number) way ≡ 0
  no_address number = nowhere (tree_of p number) (no_root number) (none_waits number)

  zeros_at : (number n : ℕ) → data_block (tree_of p number) n ≡ zero_block
  zeros_at number n =
      elim (cases_lt n FILE_BLOCKS) [
        | inl low ↦ data_block-read (tree_of p number) n low
            ∙ all_zeros (tree_of p number) (no_root number) (none_waits number) (data_way n)
        | inr past ↦ data_block-past (tree_of p number) n past
      ]

  all_padded : (number : ℕ) → IsPadded (data_block (tree_of p number)) 0
  all_padded number = record {
    whole = λ n. ap length (zeros_at number n) ∙ length-zero_block;
    zeros = λ i past. ap (λ b. slice_index b (i % 512)) (zeros_at number (i / 512)) ∙ zero_block-at (i % 512);
  }

  -- ---- places
  only_root : (number code : ℕ) → (log_state p).at number code ≡ placed (λ _ _. 0) 2 0 8 number code
  only_root number code =
      elim (placed-cases (λ _ _. 0) 2 0 8 number code) [
        | inl e ↦
            ap ((log_state p).at number) e.1 ∙ place-record p number
            ∙ ap (record_place p.log.tables) e.0 ∙ record_place-row p.log.tables 2 root_row h.tables.root ∙ sym e.2
        | inr e ↦ elim (cases_eq code 0) [
          | inl record_ ↦ elim (cases_eq number 2) [
            | inl root ↦ elim e.0 [
              | inl other ↦ absurd (other root)
              | inr other ↦ absurd (other record_)
            ]
            | inr other ↦
                ap ((log_state p).at number) record_ ∙ place-record p number
                ∙ record_place-row p.log.tables number fresh_row (h.tables.others number other) ∙ sym e.1
          ]
          | inr block ↦ place-block p number code block ∙ ap (λ a. 4 * a) (no_address number (way_of code)) ∙ sym e.1
        ]
      ]

  root_owner : (log_state p).owner 8 ≡ Some (record { number = 2; version = 1; code = 0 })
  root_owner = named_at-record p.log.memory 2 0 2 1 inodes_entry (omega arith) h.memory.entry refl
      (root_in_slot p.log.memory h.memory.root)

  root_version : version_of p 2 ≡ 1
  root_version = ap (λ (r : InodeRow). r.version) h.tables.root

  -- ---- the log: one in which no key has a place, and the root's record takes its place
  abbrev before : LogState
  before = record (log_state p) { at = λ _ _. 0; live = λ _. 0 }

  before_empty : IsEmptyLog before
  before_empty = record {
    some = omega (arith, h.parts.formed.segments_least, h.tables.segments, h.size);
    active = h.memory.active;
    next = omega (arith, h.memory.active, h.memory.filled);
    is_active = h.tables.active;
    others = λ s low other. h.tables.clean s other;
    clean = h.clean ∙ sym h.size;
    live = λ s low. refl;
    nowhere = λ number code low below. refl;
  }

  before_log : IsLog before 128
  before_log = let log = empty_log before before_empty in record {
    segments = log.segments;
    keys = log.keys;
    counted = log.counted;
    spared = omega (arith, h.memory.active, h.memory.filled);
  }

  live_root : (s : ℕ) → slice_index p.log.tables.live s + weight_of 0 s 0 ≡ 0 + weight_of 8 s 0
  live_root s =
      let none = weight-none s 0 in
      elim (cases_eq s 0) [
        | inl first ↦
            let full : weight_of 8 s 0 ≡ 128 = ap (λ n. weight_of 8 n 0) first
            ∙ weight-here 8 0 0 (λ e. omega arith) refl in
            let live : slice_index p.log.tables.live s ≡ 128 = h.tables.live s ∙ cond-true _ _ _ (eq-eqb s 0 first) in
            omega arith
        | inr other ↦
            let away : weight_of 8 s 0 ≡ 0 = weight-elsewhere 8 s 0 (λ e. other (sym e)) in
            let live : slice_index p.log.tables.live s ≡ 0 = h.tables.live s ∙ cond-false _ _ _ (ne_eqb s 0 other) in
            omega arith
      ]

  root_assigned : Assigns before (log_state p) 2 0 8
  root_assigned = record {
    numbers = refl;
    segments = refl;
    places = λ number code low below. only_root number code;
    versions = λ number low. refl;
    end = record { active = refl; next = refl };
    used = record { states = λ s low. refl; clean = refl };
    live = λ s low. live_root s;
    owners = λ place. refl;
  }

  root_may : MayTake before 128 2 0 8
  root_may = record {
    number_below = omega (arith, h.parts.formed.inodes_least);
    code_below = omega arith;
    somewhere = λ e. omega arith;
    here = sym h.memory.active;
    written = omega (arith, h.memory.active, h.memory.filled);
    owned = root_owner ∙ ap (λ v. Some (record { number = 2; version = v; code = 0 })) (sym root_version);
    enough = omega arith;
  }

  opening_log : IsLog (log_state p) 0
  opening_log = taken_log before (log_state p) 128 2 0 8 before_log root_may root_assigned

  -- ---- the files
  root_formed : AreFields (root_fields 1)
  root_formed = record {
    numbered = (omega arith, λ e. omega arith, omega arith);
    versioned = omega arith;
    permitted = omega arith;
    flagged = refl;
    sized = (omega arith, λ e. refl);
    whole = refl;
    in_volume = λ n low. let none = slice_index-zeros 14 n in omega arith;
    within = λ n low past. slice_index-zeros 14 n;
  }

  root_file : IsFile p 2 (root_fields 1)
  root_file = record {
    formed = root_formed;
    own_number = refl;
    own_version = sym root_version;
    none_past = λ block is past. no_address 2 (way_to block);
    padded = all_padded 2;
  }

  none_locked : (key : Key) → IsLocked key p.cache → ⊥
  none_locked key locked = false≢true (sym (ap (λ (c : Contents). is_some (block_in key c.locked)) h.cache) ∙ locked)

  opening_files : (formed : IsContents p.cache) → AreFiles p
  opening_files formed = record {
    parts = h.parts;
    cache = formed;
    reserved = λ number low other. ap (λ (r : InodeRow). r.used) (h.tables.others number other);
    recorded = λ number used. elim (cases_eq number 2) [
      | inl root ↦ ap (λ n. is_some (record_of p n)) root ∙ ap is_some root_record
      | inr other ↦ absurd (false≢true (sym (ap (λ (r : InodeRow). r.used) (h.tables.others number other)) ∙ used))
    ];
    files = λ number f is.
        let one = one_record number f is in
        subst (λ n. IsFile p n f) (sym one.0) (subst (IsFile p 2) (sym one.1) root_file);
    records = subst (λ vs. All (λ (v : Inode). IsPresent p v.number v.version) vs) (sym h.no_record)
        (λ k d low. absurd (omega arith));
    frames = λ key locked. absurd (none_locked key locked);
    coded = λ key locked. absurd (none_locked key locked);
    mirrors = mirrors_none p (ap (λ (c : Contents). c.lru) h.cache);
  }

  pub opening_store : (formed : IsContents p.cache) → IsStore p
  opening_store formed = record {
    whole = opening_files formed;
    log = opening_log;
    ready = h.memory.ready;
    parents = record {
      records = λ key locked. absurd (none_locked key locked);
      holders = λ key locked i up way. absurd (none_locked key locked);
    };
    once = none_once p.waiting h.no_record;
    few = let none : length p.waiting ≡ 0 = ap (λ (vs : List Inode). length vs) h.no_record in omega arith;
    within = λ number block f is can locked. absurd (none_locked _ locked);
  }

  -- ---- the content
  root_content : file_at p 2 ≡ Some fresh_root
  root_content =
      file_at-some p 2 (root_fields 1) root_record
      ∙ ap Some (λ i. record fresh_root { bytes = no_bytes (file_bytes (data_block (tree_of p 2)) 0) refl i })

  pub opening_shown : content_of p ≡ opening_content
  opening_shown = same_map nat_cmp_total nat_cmp-IsAntisymmetric (content_of p) opening_content
      (λ q. elim (cases_eq q 2) [
        | inl root ↦ rw root (get-content_of p 2 ∙ root_content ∙ sym (get-insert_same map.empty 2 fresh_root))
        | inr other ↦
            get-content_of p q ∙ file_at-none p q (no_record_at q other)
            ∙ sym (get-insert_other map.empty 2 fresh_root q other ∙ get-empty nat_cmp q)
      ])

-- ---- the inode map, once the root was entered
pub root_entered : (segments inodes : ℕ) (between new : LogParts) → 2 < inodes → 6 ≤ segments
    → between.tables ≡ with_row (fresh_used segments inodes) 2 (given_row 1)
    → IsParts between → IsParts new → new.memory ≡ between.memory
    → row_of new.tables 2 ≡ placed_row 2 0 (row_of between.tables 2)
    → ((other : ℕ) → other ≢ 2 → row_of new.tables other ≡ row_of between.tables other)
    → length new.tables.rows ≡ length between.tables.rows
    → ((s : ℕ) → live_of new.tables s + weight_of (record_place between.tables 2) s 0 ≡ live_of between.tables s
    + weight_of (record_place new.tables 2) s 0)
    → new.tables.states ≡ between.tables.states
    → HasRootRow segments inodes new.tables
root_entered segments inodes between new low many given parts kept memory row rows count live states =
    let fresh_rows = replicate inodes fresh_row in
    let given_at : row_of between.tables 2 ≡ given_row 1
    = ap (λ (t : Tables). row_of t 2) given ∙ get_or-set_same fresh_rows 2 (given_row 1) fresh_row
    (omega (arith, length-replicate inodes fresh_row)) in
    let root : row_of new.tables 2 ≡ root_row = row ∙ ap (placed_row 2 0) given_at in
    let before : record_place between.tables 2 ≡ 0 = record_place-row between.tables 2 (given_row 1) given_at in
    let after : record_place new.tables 2 ≡ 8 = record_place-row new.tables 2 root_row root in
    let none : (s : ℕ) → live_of between.tables s ≡ 0 = λ s. ap (λ (t : Tables). live_of t s) given
    ∙ slice_index-zeros segments s in
    let long : length between.tables.live ≡ segments = ap (λ (t : Tables). length t.live) given
    ∙ length-replicate segments 0 in
    let states_given = states ∙ ap (λ (t : Tables). t.states) given in
    let clean_states = replicate segments Clean in
    record {
      segments = kept.agree ∙ ap (λ (m : SegmentMemory). m.segments) memory ∙ sym parts.agree ∙ long;
      inodes = count ∙ ap (λ (t : Tables). length t.rows) given ∙ length-set fresh_rows 2 (given_row 1)
          ∙ length-replicate inodes fresh_row;
      live = λ s.
          let bytes : live_of new.tables s + weight_of 0 s 0 ≡ 0 + weight_of 8 s 0
          = ap (λ n. live_of new.tables s + weight_of n s 0) (sym before) ∙ live s
          ∙ ap (λ n. n + weight_of (record_place new.tables 2) s 0) (none s)
          ∙ ap (λ n. 0 + weight_of n s 0) after in
          let nothing = weight-none s 0 in
          elim (cases_eq s 0) [
            | inl first ↦
                let full : weight_of 8 s 0 ≡ 128 = ap (λ n. weight_of 8 n 0) first
                ∙ weight-here 8 0 0 (λ e. omega arith) refl in
                let is : live_of new.tables s ≡ 128 = omega arith in
                is ∙ sym (cond-true _ _ _ (eq-eqb s 0 first))
            | inr other ↦
                let away : weight_of 8 s 0 ≡ 0 = weight-elsewhere 8 s 0 (λ e. other (sym e)) in
                let is : live_of new.tables s ≡ 0 = omega arith in
                is ∙ sym (cond-false _ _ _ (ne_eqb s 0 other))
          ];
      active = ap (λ ss. slice_index_or ss 0 Clean) states_given
          ∙ get_or-set_same clean_states 0 Active Clean (omega (arith, length-replicate segments Clean));
      clean = λ s other. ap (λ ss. slice_index_or ss s Clean) states_given
          ∙ get_or-set_other clean_states 0 s Active Clean other
          ∙ all_clean segments s;
      root = root;
      others = λ number other. rows number other ∙ ap (λ (t : Tables). row_of t number) given
          ∙ get_or-set_other fresh_rows 2 number (given_row 1) fresh_row other ∙ all_fresh inodes number;
    }
