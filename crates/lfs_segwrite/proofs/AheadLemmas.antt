-- Writing what waits, and staging changes behind that, moves no key into a dirty segment and changes no block that was
-- written: `writes_ahead` for MarkedLemmas, `writes_waiting` for `writing::write_waiting`, `makes_changes` for
-- `applying::apply`. What is written lies in the active segment, which was active before or clean, so it wasn't dirty
-- (`active_other`) and its old blocks lie before the end (`outside`). That one opening is enough is arithmetic: what
-- waits takes 41 blocks at most (`waits_few`), changes take 22, and a segment has 63; so two stay clean (`leaves_two`).
use Rattle.std.proofs.Common.{◌≡◌, ◌≢◌, ◌⊎◌, ℕ, zero, suc, ◌+◌, ◌*◌, ◌/◌, ◌<◌, ◌≤◌, List, [], length, IsSome, refl, sym}
use Rattle.std.proofs.Common.{ap, ap₂, ◌∙◌, subst, inl, inr, arith}
use Rattle.std.specs.Prelude.{slice_index_or, if◌then◌else◌, ◌||◌, ◌==◌, true, false}
use Rattle.std.proofs.lemmas.Bool.{cases_eq, cases_lt, false≢true, le-ltb}
use Rattle.lfs_types.specs.Changes.{applied}
use Rattle.lfs_types.specs.declared.store.Change.{Change}
use Rattle.lfs_types.specs.declared.store.Reserve.{Reserve}
use Rattle.lfs_types.specs.declared.limits.TheConstants.{SEGMENT_BLOCKS}
use Rattle.lfs_ifile.specs.declared.segment.SegState.{SegState}
use Rattle.lfs_ifile.specs.declared.segment.SegState.TheVariants.{Clean}
use Rattle.lfs_ifile.specs.declared.inode.InodeRow.{InodeRow}
use Rattle.lfs_cache.specs.Contents.{IsLocked}
use Rattle.lfs_segments.specs.Memory.{SegmentMemory, block_at, has_serials, log_start, next_address, room_of}
use Rattle.lfs_segments.specs.Rising.{IsRising}
use Rattle.lfs_found.specs.Written.{IsRecoverable}
use Rattle.lfs_log.specs.Parts.{state_of}
use Rattle.lfs_bmap.specs.Counting.{seg_of}
use Rattle.lfs_bmap.specs.Log.{IsPlaced}
use Rattle.lfs_bmap.specs.Moves.{DirtyIn, Moves, StaysDirty}
use Rattle.lfs_bmap.proofs.LogLemmas.{dirty_not_active}
use Rattle.lfs_bmap.proofs.MoveLemmas.{StaysDirty-trans, moves-same, moves-trans}
use Rattle.lfs_parts.specs.declared.parts.Parts.{Parts}
use Rattle.lfs_segwrite.specs.Applying.{HasRoom, HasRoomFor, versions_after, MakesChanges, MakesWay, StagesAll}
use Rattle.lfs_segwrite.specs.Applying.{WritesWaiting, blocks_for, frames_of_all, may_use_reserve}
use Rattle.lfs_segwrite.specs.Applying.{needs_of, passes_limits, peak_of_all, records_of_all, waiting_blocks}
use Rattle.lfs_segwrite.specs.Collecting.{blocks_of_entries, entries_of}
use Rattle.lfs_parts.specs.Files.{content_of}
use Rattle.lfs_segwrite.specs.Flushing.{Flushes, Waits, WritesAhead}
use Rattle.lfs_parts.specs.Keys.{log_state}
use Rattle.lfs_segwrite.specs.Room.{KeepsFiles}
use Rattle.lfs_parts.specs.Store.{IsFlushed, IsStore}
use Rattle.lfs_staging.specs.Changing.{StaysInLog}
use Rattle.lfs_staging.specs.Staging.{IsStaged}
use Rattle.lfs_staging.proofs.HeldFrames.{KeepsFrames-same, KeepsFrames-trans}
use Rattle.lfs_staging.proofs.KeptLemmas.{staged_store, store_staged}
use Rattle.lfs_staging.proofs.StagedLemmas.{stays-refl}
use Rattle.lfs_ifile.specs.Tables.{row_at}
use Rattle.lfs_inodes.specs.declared.inode.Inode.{Inode}
use Rattle.lfs_segments.specs.Log.{Expects}
use Rattle.lfs_parts.specs.View.{key_of, version_of, waiting_in}
use Rattle.lfs_segwrite.proofs.BoundLemmas.{blocks_more, blocks_sum}
use Rattle.lfs_segwrite.proofs.OrderLemmas.{entries_of-same}
use Rattle.lfs_segwrite.proofs.CollectingLemmas.{entries_of-length}
use Rattle.lfs_segwrite.proofs.OrderedLemmas.{stays_ordered}
use Rattle.lfs_segwrite.proofs.AdvanceLemmas.{cases_Waits}

-- an address outside a segment lies before it or behind it
apart : (a segment fill : ℕ) → a / 64 ≢ segment → (a < segment * 64 + fill) ⊎ (64 * segment + 64 ≤ a)
apart a segment fill other = elim (cases_lt a (segment * 64 + fill)) [
  | inl before ↦ inl before
  | inr not_before ↦ inr (omega arith)
]

-- the log of a segment ends behind the label
used_first : (active fill : ℕ) → log_start active ≤ fill → 0 < active * 64 + fill
used_first zero fill from = omega arith
used_first (suc active) fill from = omega arith

module _ (old a b new : Parts) (kept : KeepsFiles old a) (fewer : a.log.clean ≤ old.log.clean)
    (stays : StaysInLog a b) (staged : IsStaged b 0) (flushes : Flushes b new) where
  abbrev active : ℕ
  active = b.log.memory.active

  segments_same : b.log.memory.segments ≡ old.log.memory.segments
  segments_same = ap (λ (m : SegmentMemory). m.segments) stays.memory ∙ kept.dirty.segments

  -- ---- the states
  staged_dirty : StaysDirty (log_state a) (log_state b)
  staged_dirty = record {
    segments = ap (λ (m : SegmentMemory). m.segments) stays.memory;
    dirty = λ s low dirty. ap (λ (xs : List SegState). slice_index_or xs s Clean) stays.states ∙ dirty;
  }

  flush_dirty : StaysDirty (log_state b) (log_state new)
  flush_dirty = record {
    segments = flushes.segments;
    dirty = λ s low dirty. ap (λ (xs : List SegState). slice_index_or xs s Clean) flushes.states ∙ dirty;
  }

  until_dirty : StaysDirty (log_state old) (log_state b)
  until_dirty = StaysDirty-trans (log_state old) (log_state a) (log_state b) kept.dirty staged_dirty

  -- the active segment was not dirty
  active_other : DirtyIn (log_state old) active → ⊥
  active_other dirty =
      let low : active < old.log.memory.segments =
      subst (λ n. active < n) segments_same staged.log.segments.inside in
      dirty_not_active (sym (until_dirty.dirty active low dirty) ∙ staged.log.segments.is_active)

  -- ---- the keys
  moved_active : (n c : ℕ) → IsPlaced (log_state new) n c → Waits b n c → seg_of ((log_state new).at n c) ≡ active
  moved_active n c there waits =
      let m = flushes.moved n c (subst (λ k. n < k) flushes.numbers there.number_below) there.code_below waits in
      let same = flushes.active in
      let whole = flushes.store.whole.parts.laid_out.within in
      omega (arith, m.0, m.1)

  flush_moves : Moves (DirtyIn (log_state old)) (log_state b) (log_state new)
  flush_moves = record {
    numbers = flushes.numbers;
    places = λ n c there dirty. elim (cases_Waits b n c) [
      | inl waits ↦ absurd (active_other (subst (DirtyIn (log_state old)) (moved_active n c there waits) dirty))
      | inr none ↦ sym (flushes.still n c (subst (λ k. n < k) flushes.numbers there.number_below) there.code_below none)
    ];
    versions = λ n c there dirty. sym (flushes.versions n);
  }

  staged_moves : Moves (DirtyIn (log_state old)) (log_state a) (log_state b)
  staged_moves = record {
    numbers = stays.moves.numbers;
    places = λ n c there dirty. stays.moves.places n c there tt;
    versions = λ n c there dirty. stays.moves.versions n c there tt;
  }

  moves_ahead : Moves (DirtyIn (log_state old)) (log_state old) (log_state new)
  moves_ahead =
      moves-trans (DirtyIn (log_state old)) (log_state old) (log_state b) (log_state new)
      (moves-trans (DirtyIn (log_state old)) (log_state old) (log_state a) (log_state b)
      (moves-same (DirtyIn (log_state old)) (log_state old) (log_state a) kept.keys) staged_moves)
      flush_moves

  -- ---- the blocks
  -- a block that was written lies outside what was written now
  outside : (x : ℕ) → state_of old.log.tables (x / SEGMENT_BLOCKS) ≢ Clean
      → (x / SEGMENT_BLOCKS ≡ old.log.memory.active → x < next_address old.log.memory)
      → (x < next_address b.log.memory) ⊎ (SEGMENT_BLOCKS * active + SEGMENT_BLOCKS ≤ x)
  outside x used before = elim kept.end [
    | inl same ↦
        let memory : b.log.memory ≡ old.log.memory = stays.memory ∙ same in
        subst (λ (m : SegmentMemory). (x < next_address m) ⊎ (64 * m.active + 64 ≤ x)) (sym memory)
        (elim (cases_eq (x / 64) old.log.memory.active) [
          | inl here ↦ inl (before here)
          | inr other ↦ apart x old.log.memory.active old.log.memory.fill other
        ])
    | inr opened ↦
        let was : state_of old.log.tables active
        ≡ Clean = ap (λ (m : SegmentMemory). state_of old.log.tables m.active) stays.memory ∙ opened.0 in
        apart x active b.log.memory.fill (λ here. used (ap (state_of old.log.tables) here ∙ was))
  ]

  clean_less : new.log.clean ≤ old.log.clean
  clean_less =
      let same : new.log.clean ≡ a.log.clean = flushes.clean ∙ stays.clean in omega (arith, fewer)

  pub writes_ahead : WritesAhead old new
  writes_ahead = record {
    segments = flushes.segments ∙ segments_same;
    serials = flushes.serials ∙ ap has_serials stays.memory ∙ kept.serials;
    rising = λ r. flushes.rising (subst IsRising (sym stays.memory) (kept.rising r));
    whole = λ r. flushes.whole (subst IsRecoverable (sym stays.memory) (kept.whole r));
    ordered = λ r order. flushes.ordered (subst IsRecoverable (sym stays.memory) (kept.whole r))
        (stays_ordered a b stays (kept.ordered r order));
    numbers = flushes.numbers ∙ stays.numbers ∙ ap (λ (rs : List InodeRow). length rs) kept.rows;
    clean = clean_less;
    moves = moves_ahead;
    dirty = StaysDirty-trans (log_state old) (log_state b) (log_state new) until_dirty flush_dirty;
    label = flushes.blocks 0 (inl (used_first b.log.memory.active b.log.memory.fill staged.whole.parts.laid_out.begun))
        ∙ ap (λ (m : SegmentMemory). block_at m 0) stays.memory ∙ kept.label;
    blocks = λ x used before.
        flushes.blocks x (outside x used before) ∙ ap (λ (m : SegmentMemory). block_at m x) stays.memory
        ∙ kept.blocks x used;
  }

-- ---- what waits is written
waits_room : (old a : Parts) → KeepsFiles old a → (n c : ℕ) → Waits a n c → Waits old n c
waits_room old a kept n zero waits = subst (λ w. IsSome (waiting_in w n)) kept.waiting waits
waits_room old a kept n (suc c) waits =
    let version : version_of a n ≡ version_of old n = ap (λ (rs : List InodeRow). (row_at rs n).version) kept.rows in
    subst (λ v. IsLocked (key_of n v (suc c)) old.cache) version
    (subst (IsLocked (key_of n (version_of a n) (suc c))) kept.cache waits)

pub waiting_same : (old a : Parts) → KeepsFiles old a → waiting_blocks a ≡ waiting_blocks old
waiting_same old a kept = ap blocks_of_entries (entries_of-same old a kept.cache kept.waiting)

module _ (old a new : Parts) (blocks : ℕ) (is : blocks ≡ waiting_blocks old) (store : IsStore a)
    (kept : KeepsFiles old a) (enough : blocks ≤ room_of old.log.memory → a ≡ old)
    (opened : room_of old.log.memory < blocks → (a.log.clean + 1 ≡ old.log.clean)
    × (state_of old.log.tables a.log.memory.active ≡ Clean))
    (fresh : room_of old.log.memory < blocks → 64 ≤ room_of a.log.memory + 1) (flushes : Flushes a new) where
  same : waiting_blocks a ≡ waiting_blocks old
  same = waiting_same old a kept

  fewer : a.log.clean ≤ old.log.clean
  fewer = elim (cases_lt (room_of old.log.memory) blocks) [
    | inl short ↦ let one = (opened short).0 in omega arith
    | inr room ↦ let one : a.log.clean ≡ old.log.clean = ap (λ (p : Parts). p.log.clean) (enough room) in omega arith
  ]

  pub writes_waiting : WritesWaiting old new
  writes_waiting = record {
    store = flushes.store;
    flushed = flushes.flushed;
    content = flushes.content ∙ kept.content;
    log = writes_ahead old a a new kept fewer (stays-refl a) (store_staged a store) flushes;
    flush = record { ready = a; end = kept.end; flushes = flushes };
    stays = λ none. elim (cases_lt (room_of old.log.memory) blocks) [
      | inl short ↦ let one = (opened short).0 in let clean = flushes.clean in absurd (omega arith)
      | inr room ↦ flushes.active ∙ ap (λ (p : Parts). p.log.memory.active) (enough room)
    ];
    used = λ n. flushes.used n ∙ ap (λ (rs : List InodeRow). (row_at rs n).used) kept.rows;
    versions = λ n. flushes.versions n ∙ ap (λ (rs : List InodeRow). (row_at rs n).version) kept.rows;
    still = λ n c low below none.
        flushes.still n c (subst (λ k. n < k) (sym (ap (λ (rs : List InodeRow). length rs) kept.rows)) low) below
        (λ waits. none (waits_room old a kept n c waits))
        ∙ kept.keys.places n c low below;
    held = KeepsFrames-trans old.cache a.cache new.cache (KeepsFrames-same old.cache a.cache kept.cache) flushes.held;
    left =
        let clean = flushes.clean in
        let grown = flushes.grown in
        let active = flushes.active in
        let within = flushes.store.whole.parts.laid_out.within in
        let all = same in
        elim (cases_lt (room_of old.log.memory) blocks) [
          | inl short ↦
              let o = opened short in
              let new_room = fresh short in
              inr (omega (arith, is), omega (arith, o.0), omega (arith, is))
          | inr enough_room ↦
              let nothing = enough enough_room in
              let first : room_of a.log.memory ≡ room_of old.log.memory =
              ap (λ (p : Parts). room_of p.log.memory) nothing in
              let kept_clean : a.log.clean ≡ old.log.clean = ap (λ (p : Parts). p.log.clean) nothing in
              let end : next_address a.log.memory ≡ next_address old.log.memory =
              ap (λ (p : Parts). next_address p.log.memory) nothing in
              inl (omega arith, omega arith, clean ∙ kept_clean)
        ];
  }

-- ---- changes are staged where nothing was written, or behind what was
pub stays_ahead : (a b : Parts) → StaysInLog a b → WritesAhead a b
stays_ahead a b stays = record {
  segments = ap (λ (m : SegmentMemory). m.segments) stays.memory;
  serials = ap has_serials stays.memory;
  rising = subst IsRising (sym stays.memory);
  whole = subst IsRecoverable (sym stays.memory);
  ordered = λ r order. stays_ordered a b stays order;
  numbers = stays.numbers;
  clean = let same = stays.clean in omega arith;
  moves = record {
    numbers = stays.moves.numbers;
    places = λ n c there dirty. stays.moves.places n c there tt;
    versions = λ n c there dirty. stays.moves.versions n c there tt;
  };
  dirty = record {
    segments = ap (λ (m : SegmentMemory). m.segments) stays.memory;
    dirty = λ s low dirty. ap (λ (xs : List SegState). slice_index_or xs s Clean) stays.states ∙ dirty;
  };
  label = ap (λ (m : SegmentMemory). block_at m 0) stays.memory;
  blocks = λ x used before. ap (λ (m : SegmentMemory). block_at m x) stays.memory;
}

pub ahead_stays : (old a b : Parts) → WritesAhead old a → StaysInLog a b → WritesAhead old b
ahead_stays old a b ahead stays =
    let after = stays_ahead a b stays in
    record {
      segments = after.segments ∙ ahead.segments;
      serials = after.serials ∙ ahead.serials;
      rising = λ r. after.rising (ahead.rising r);
      whole = λ r. after.whole (ahead.whole r);
      ordered = λ r order. stays_ordered a b stays (ahead.ordered r order);
      numbers = after.numbers ∙ ahead.numbers;
      clean = let first = ahead.clean in let second = after.clean in omega arith;
      moves = moves-trans (DirtyIn (log_state old)) (log_state old) (log_state a) (log_state b) ahead.moves (record {
        numbers = stays.moves.numbers;
        places = λ n c there dirty. stays.moves.places n c there tt;
        versions = λ n c there dirty. stays.moves.versions n c there tt;
      });
      dirty = StaysDirty-trans (log_state old) (log_state a) (log_state b) ahead.dirty after.dirty;
      label = ap (λ (m : SegmentMemory). block_at m 0) stays.memory ∙ ahead.label;
      blocks = λ x used before. ap (λ (m : SegmentMemory). block_at m x) stays.memory ∙ ahead.blocks x used before;
    }

module _ (changes : List Change) (old a b : Parts) (store : IsStore a) (stages : StagesAll changes a b) where
  pub still_store : IsStore b
  still_store = staged_store b stages.staged
      (subst (λ (m : SegmentMemory). Expects m []) (sym stages.log.memory) store.ready)

  same_room : room_of b.log.memory ≡ room_of a.log.memory
  same_room = ap (λ (m : SegmentMemory). room_of m) stages.log.memory

  -- what waits then takes no more than what waited and the changes
  pub waiting_most : waiting_blocks b ≤ waiting_blocks a + needs_of changes
  waiting_most =
      let more = blocks_more (length b.cache.locked) (length a.cache.locked + frames_of_all changes) (length b.waiting)
      (length a.waiting + records_of_all changes)
      stages.frames_more stages.records_more in
      let sum = blocks_sum (length a.cache.locked) (frames_of_all changes) (length a.waiting) (records_of_all changes)
      in
      let before : waiting_blocks a ≡ blocks_for (length a.cache.locked) (length a.waiting) = ap (λ n. if n == 0 then 0
      else n + 1) (entries_of-length a) in
      let after : waiting_blocks b ≡ blocks_for (length b.cache.locked) (length b.waiting) = ap (λ n. if n == 0 then 0
      else n + 1) (entries_of-length b) in
      omega arith

-- what waits takes at most 41 blocks
pub waits_few : (p : Parts) → IsStore p → waiting_blocks p ≤ 41
waits_few p store =
    let limit = store.whole.cache.limit in
    let few = store.few in
    let more = blocks_more (length p.cache.locked) 24 (length p.waiting) 64 limit few in
    let is : blocks_for 24 64 ≡ 41 = refl in
    let all : waiting_blocks p ≡ blocks_for (length p.cache.locked) (length p.waiting) = ap (λ n. if n == 0 then 0
    else n + 1) (entries_of-length p) in
    omega arith

-- nothing that waits takes no block
flushed_none : (p : Parts) → IsFlushed p → waiting_blocks p ≡ 0
flushed_none p flushed =
    let frames : length p.cache.locked ≡ 0 = ap length flushed.no_frame in
    let records : length p.waiting ≡ 0 = ap (λ (vs : List Inode). length vs) flushed.no_record in
    let none : length (entries_of p) ≡ 0 = let all = entries_of-length p in omega arith in
    ap (λ n. if n == 0 then 0 else n + 1) none

-- changes that have room fit, or a segment is clean
room_or : (by : Reserve) (changes : List Change) (p : Parts) → HasRoomFor by changes p
    → (waiting_blocks p + needs_of changes ≤ room_of p.log.memory) ⊎ (0 < p.log.clean)
room_or by changes p has = elim has [
  | inl taking ↦ elim taking [ inl more ↦ inr (omega arith) | inr both ↦ inl both.1 ]
  | inr giving ↦ elim giving.1 [
    | inl more ↦ inr (omega arith)
    | inr behind ↦ elim behind.1.room [ inl fits ↦ inl (omega (arith, fits)) | inr opens ↦ inr opens.0 ]
  ]
]

-- those that don't fit may use what is kept back, or more than two segments are clean
more_or : (by : Reserve) (changes : List Change) (p : Parts) → HasRoomFor by changes p
    → room_of p.log.memory < waiting_blocks p
    → (may_use_reserve by (content_of p) changes ≡ true) ⊎ (2 < p.log.clean)
more_or by changes p has short = elim has [
  | inl taking ↦ elim taking [ inl more ↦ inr more | inr both ↦ absurd (omega (arith, both.1)) ]
  | inr giving ↦ inl giving.0
]

-- changes that may not use what is kept back leave two segments clean once they are written, where the log has the room
-- still that they had
leaves_two : (by : Reserve) (changes : List Change) (old b last : Parts) → HasRoomFor by changes old
    → may_use_reserve by (content_of old) changes ≡ false → b.log.clean ≡ old.log.clean
    → waiting_blocks b + room_of old.log.memory ≤ room_of b.log.memory + (waiting_blocks old + needs_of changes)
    → WritesWaiting b last → 2 ≤ last.log.clean
leaves_two by changes old b last has plain clean_is fits w = elim has [
  | inl taking ↦ elim w.left [
    | inl here ↦ let clean = here.2 in elim taking [ inl more ↦ omega arith | inr two ↦ omega (arith, two.0) ]
    | inr opened ↦ let clean = opened.1 in let short = opened.2 in
        elim taking [ inl more ↦ omega arith | inr two ↦ absurd (omega (arith, two.1)) ]
  ]
  | inr giving ↦ absurd (false≢true (sym plain ∙ giving.0))
]

-- where no block waits and few records, the limits aren't passed
few_pass : (changes : List Change) (p : Parts) → length p.cache.locked ≡ 0 → length p.waiting + 4 ≤ 64
    → peak_of_all changes ≤ 24 → length changes ≤ 4 → passes_limits p changes ≡ false
few_pass changes p none few peak count =
    ap₂ (λ x y. x || y) (le-ltb 24 (length p.cache.locked + peak_of_all changes) (omega arith))
    (le-ltb 64 (length p.waiting + length changes) (omega arith))

pub makes_changes : (by : Reserve) (changes : List Change) (old a b : Parts) → HasRoom old → HasRoomFor by changes old
    → waiting_blocks old ≤ 41 → needs_of changes ≤ 22 → peak_of_all changes ≤ 24 → length changes ≤ 4
    → MakesWay changes old a → StagesAll changes a b → MakesChanges by changes old b
makes_changes by changes old a b had has few most peak count way stages =
    let free_or = room_or by changes old has in
    elim way.either [
      | inl nothing ↦
          let same : a ≡ old = nothing.1 in
          let from : StagesAll changes old b = subst (λ p. StagesAll changes p b) same stages in
          let store : IsStore old = subst IsStore same way.store in
          let waits = waiting_most changes old old b store from in
          let room = same_room changes old old b store from in
          let clean = from.log.clean in
          record {
            store = still_store changes old old b store from;
            room = record { room = elim free_or [ inl enough ↦ inl (omega arith) | inr free ↦ inr (omega arith) ] };
            content = from.content_is;
            versions = from.versions_are;
            log = stays_ahead old b from.log;
            reserve = λ fewer. absurd (omega arith);
            leaves = λ plain last w. leaves_two by changes old b last has plain clean (omega arith) w;
            opened = omega arith;
            enough = λ _. clean;
            delayed = λ _. from.log;
            few = λ _ _. from.log;
            between = a;
            way = way;
            stages = stages;
          }
      | inr written ↦
          let w = written.1 in
          let waits = waiting_most changes old a b way.store stages in
          let room = same_room changes old a b way.store stages in
          let none = flushed_none a w.flushed in
          let clean = stages.log.clean in
          record {
            store = still_store changes old a b way.store stages;
            room = record {
              room = elim w.left [
                | inl here ↦
                    let first = here.1 in
                    let second = here.2 in
                    elim free_or [ inl enough ↦ inl (omega arith) | inr free ↦ inr (omega arith) ]
                | inr opened ↦ let first = opened.0 in inl (omega arith)
              ];
            };
            content = stages.content_is ∙ ap (applied changes) w.content;
            versions = λ n. stages.versions_are n ∙ ap (versions_after changes n) (w.versions n);
            log = ahead_stays old a b w.log stages.log;
            reserve = λ fewer. elim w.left [
              | inl here ↦ let second = here.2 in absurd (omega arith)
              | inr opened ↦ (has, more_or by changes old has opened.2)
            ];
            leaves = λ plain last next. elim w.left [
              | inl here ↦ let second = here.1 in
                  leaves_two by changes old b last has plain (clean ∙ here.2) (omega arith) next
              | inr opened ↦ elim (more_or by changes old has opened.2) [
                | inl may ↦ absurd (false≢true (sym plain ∙ may))
                | inr more ↦ let one = opened.1 in let whole = opened.0 in elim next.left [
                  | inl still ↦ let all = still.2 in omega arith
                  | inr again ↦ let short = again.2 in absurd (omega arith)
                ]
              ]
            ];
            opened = elim w.left [
              | inl here ↦ let second = here.2 in omega arith
              | inr opened ↦ let one = opened.1 in omega arith
            ];
            enough = λ fits. elim w.left [
              | inl here ↦ clean ∙ here.2
              | inr opened ↦ let short = opened.2 in absurd (omega arith)
            ];
            delayed = λ no. absurd (false≢true (sym no ∙ written.0));
            few = λ none few. absurd (false≢true (sym (few_pass changes old none few peak count) ∙ written.0));
            between = a;
            way = way;
            stages = stages;
          }
    ]
