-- A log whose clean segments have other blocks is one that a store may stand on too (`wiped_stored`), and such a store
-- contains the same (`wiped_content`): no key lies in a clean segment.
use Rattle.std.proofs.Common.{◌≡◌, ◌≢◌, ℕ, ◌+◌, ◌-◌, ◌*◌, ◌/◌, ◌<◌, ◌≤◌, inl, inr, true, Some, List, [], length}
use Rattle.std.proofs.Common.{is_some, refl, sym, ap, subst, ◌∙◌, arith}
use Rattle.std.specs.Prelude.{Option}
use Rattle.std.proofs.lemmas.Bool.{cases_Bool, cases_eq, cond-false, cond-true}
use Rattle.lfs_types.specs.declared.limits.TheConstants.{SEGMENT_BLOCKS}
use Rattle.lfs_ifile.specs.declared.segment.SegState.TheVariants.{Clean}
use Rattle.lfs_ifile.specs.Inode.{fresh_row}
use Rattle.lfs_ifile.specs.Tables.{row_of}
use Rattle.lfs_inodes.specs.Reading.{fields_in}
use Rattle.lfs_inodes.specs.Slots.{slot_of}
use Rattle.lfs_segments.specs.Log.{Expects, entry_at, expected_at}
use Rattle.lfs_segments.specs.Memory.{IsLaidOut, SegmentMemory, block_at, has_serials, next_address}
use Rattle.lfs_segments.proofs.LogLemmas.{entry_at-same}
use Rattle.lfs_segments.proofs.RisingLemmas.{expected_at-same}
use Rattle.lfs_bmap.specs.declared.blocks.TheConstants.{BLOCK_CODES}
use Rattle.lfs_bmap.specs.Counting.{seg_of}
use Rattle.lfs_bmap.specs.Log.{AreSegments, IsLog, IsPlace, IsPlaced, LogState, SameKeys, owner_of}
use Rattle.lfs_bmap.specs.Reading.{SameReadings, address}
use Rattle.lfs_bmap.specs.Ways.{IsBlockWay, way_of}
use Rattle.lfs_bmap.proofs.LogLemmas.{active_not_clean, counted_kept, had_place, place_kept}
use Rattle.lfs_bmap.proofs.PlaceLemmas.{data_block-same}
use Rattle.lfs_bmap.proofs.ReadingLemmas.{kept_blocks}
use Rattle.lfs_bmap.proofs.WayLemmas.{way_of-known}
use Rattle.lfs_log.specs.Names.{named_at}
use Rattle.lfs_log.specs.Parts.{IsParts, LogParts, clean_count, record_place, state_of}
use Rattle.lfs_log.proofs.NameLemmas.{named_at-same}
use Rattle.lfs_parts.specs.declared.parts.Parts.{Parts}
use Rattle.lfs_parts.specs.Files.{content_of}
use Rattle.lfs_parts.specs.Keys.{log_state}
use Rattle.lfs_parts.specs.Store.{IsStore}
use Rattle.lfs_parts.specs.View.{record_of, root_in, tree_of}
use Rattle.lfs_parts.proofs.KeyLemmas.{place-block, place-record, placed_at}
use Rattle.lfs_parts.proofs.SameContentLemmas.{content_of-same, file_at-kept}
use Rattle.lfs_parts.proofs.SameLogLemmas.{used_low}
use Rattle.lfs_parts.proofs.ViewLemmas.{record_like, record_of-logged, record_of-unused}
use Rattle.lfs_segwrite.proofs.AlikeLemmas.{AreAlike, alike_content, alike_files}
use Rattle.lfs_fsck.specs.Stored.{flushed, stored}
use Rattle.lfs_durable.proofs.SparedLemmas.{block_held}
use Rattle.lfs_durable.specs.Spared.{IsHeld}

-- how many frames there are makes no difference to what is contained
pub content_frames : (l : LogParts) (frames : ℕ) → content_of (stored frames l) ≡ content_of (flushed l)
unfolding record_of
content_frames l frames =
    content_of-same (flushed l) (stored frames l) refl
    (λ n low. file_at-kept (flushed l) (stored frames l) n (record_like (flushed l) (stored frames l) n refl refl refl)
    (λ k. refl))

-- a log has other blocks in its clean segments
pub record IsWiped (k : LogParts) (n : SegmentMemory) : Type 0 where
  pub laid_out : IsLaidOut n
  pub segments : n.segments ≡ k.memory.segments
  pub active : n.active ≡ k.memory.active
  pub fill : n.fill ≡ k.memory.fill
  pub serial : n.serial ≡ k.memory.serial
  pub first : block_at n 0 ≡ block_at k.memory 0
  pub kept : (a : ℕ) → state_of k.tables (a / 64) ≢ Clean → block_at n a ≡ block_at k.memory a

-- the log with these blocks
abbrev pub with_memory : LogParts → SegmentMemory → LogParts
with_memory k n = record { memory = n; tables = k.tables; clean = k.clean }

module _ (k : LogParts) (n : SegmentMemory) (frames : ℕ) (store : IsStore (stored frames k)) (w : IsWiped k n) where
  abbrev p : Parts
  p = stored frames k

  abbrev q : Parts
  q = stored frames (with_memory k n)

  parts : IsParts (with_memory k n)
  parts =
      let was = store.whole.parts in
      let segments = w.segments in
      record {
        laid_out = w.laid_out;
        formed = was.formed;
        agree = was.agree ∙ sym w.segments;
        is_active = ap (state_of k.tables) w.active ∙ was.is_active;
        no_other = λ s low here. was.no_other s (omega arith) here ∙ sym w.active;
        counted = was.counted ∙ ap (clean_count k.tables) (sym w.segments);
      }

  -- what is held lies in no clean segment
  held_kept : (a : ℕ) → IsHeld p a → block_at n a ≡ block_at k.memory a
  held_kept a held =
      let place : ℕ = (log_state p).at held.number held.code in
      let key = store.log.keys held.number held.code held.placed in
      let here = held.here in
      let segment : place / 256 ≡ a / 64 = omega arith in
      w.kept a (subst (λ (s : ℕ). state_of k.tables s ≢ Clean) segment key.not_clean)

  -- ---- records
  record_block : (i : ℕ) → (row_of k.tables i).used ≡ true
      → block_at n (row_of k.tables i).address ≡ block_at k.memory (row_of k.tables i).address
  record_block i used =
      let row = row_of k.tables i in
      elim (cases_eq row.address 0) [
        | inl none ↦ ap (block_at n) none ∙ w.first ∙ ap (block_at k.memory) (sym none)
        | inr some ↦
            let low = used_low p i used in
            let slot = (store.whole.parts.formed.each_row i fresh_row low).slot in
            let at : (log_state p).at i 0 ≡ 4 * row.address + row.slot = place-record p i
            ∙ placed_at k.tables i some in
            held_kept row.address (record {
              number = i;
              code = 0;
              placed = record { number_below = low; code_below = omega arith; somewhere = λ e. some (omega arith) };
              here = omega arith;
            })
      ]

  record_kept : (i : ℕ) → record_of q i ≡ record_of p i
  record_kept i = elim (cases_Bool (row_of k.tables i).used) [
    | inl used ↦
        record_of-logged q i _ (cond-true _ _ _ used) refl
        ∙ ap (λ b. fields_in (slot_of b (row_of k.tables i).slot)) (record_block i used)
        ∙ sym (record_of-logged p i _ (cond-true _ _ _ used) refl)
    | inr free ↦ record_of-unused q i (cond-false _ _ _ free) ∙ sym (record_of-unused p i (cond-false _ _ _ free))
  ]

  -- ---- blocks
  readings_kept : (i : ℕ) → i < length k.tables.rows → SameReadings (tree_of p i) (tree_of q i)
  readings_kept i low =
      kept_blocks (tree_of p i) (tree_of q i) (ap root_in (record_kept i)) (λ way known. refl)
      (λ way known some. held_kept (address (tree_of p i) way) (block_held p i way low known some))

  alike : AreAlike p q
  alike = record {
    cache = refl;
    numbers = refl;
    used = λ i. refl;
    versions = λ i. refl;
    records = record_kept;
    readings = readings_kept;
  }

  pub wiped_content : content_of q ≡ content_of p
  wiped_content = alike_content p q alike

  -- ---- keys
  record_same : (i : ℕ) → (log_state q).at i 0 ≡ (log_state p).at i 0
  unfolding record_place
  record_same i = refl

  place_same : (i c : ℕ) → i < length k.tables.rows → c < BLOCK_CODES → (log_state q).at i c ≡ (log_state p).at i c
  place_same i c low below = elim (cases_eq c 0) [
    | inl e ↦ ap ((log_state q).at i) e ∙ record_same i ∙ ap ((log_state p).at i) (sym e)
    | inr some ↦ place-block q i c some ∙ ap (λ a. 4 * a)
        ((readings_kept i low).addresses (way_of c) (way_of-known c below)) ∙ sym (place-block p i c some)
  ]

  keys : SameKeys (log_state p) (log_state q)
  keys = record {
    numbers = refl;
    segments = w.segments;
    places = place_same;
    versions = λ i low. refl;
  }

  owner_same : (place : ℕ) → state_of k.tables (seg_of place) ≢ Clean → named_at n place ≡ named_at k.memory place
  owner_same place used =
      let kind : has_serials n ≡ has_serials k.memory = ap (λ (o : Option ℕ). is_some o) w.serial in
      let kept : (a : ℕ) → a / 64 ≡ seg_of place → block_at n a ≡ block_at k.memory a =
      λ a here. w.kept a (λ clean. used (ap (state_of k.tables) (sym here) ∙ clean)) in
      named_at-same k.memory n place
      (entry_at-same k.memory n (place / 4) kind (λ a from below. kept a (omega arith))) (kept (place / 4) (omega arith))

  log : IsLog (log_state q) 0
  unfolding clean_count
  log =
      let was = store.log in
      let segments = w.segments in
      let active = w.active in
      let fill = w.fill in
      record {
        segments =
            let h = was.segments in
            let inside = h.inside in
            let from = h.from in
            let to = h.to in
            record {
              inside = omega arith;
              is_active = parts.is_active;
              no_other = parts.no_other;
              from = omega arith;
              to = omega arith;
              clean_count = parts.counted;
            };
        keys = λ i c h.
            let old = had_place (log_state p) (log_state q) keys i c h in
            let key = was.keys i c old in
            let place : ℕ = (log_state p).at i c in
            let in_volume = key.in_volume in
            let here : IsPlace (log_state q) i c place = record {
              in_volume = omega arith;
              owned = owner_same place key.not_clean ∙ key.owned;
              not_clean = key.not_clean;
              written = λ own. let before = key.written (own ∙ active) in omega arith;
            } in
            subst (IsPlace (log_state q) i c) (sym (place_kept (log_state p) (log_state q) keys i c h)) here;
        counted = λ s low. counted_kept (log_state p) (log_state q) keys 0 s was (λ r inside. refl) low;
        spared =
            let fits = was.spared in
            let live = ap (log_state p).live active in
            omega arith;
      }

  -- ---- the end
  ready : Expects n []
  ready =
      let was = store.ready in
      let active = w.active in
      let fill = w.fill in
      let within = store.whole.parts.laid_out.within in
      let kind : has_serials n ≡ has_serials k.memory = ap (λ (o : Option ℕ). is_some o) w.serial in
      let used : state_of k.tables k.memory.active ≢ Clean =
      λ clean. active_not_clean (sym store.whole.parts.is_active ∙ clean) in
      let kept : (a : ℕ) → a / 64 ≡ k.memory.active → block_at n a ≡ block_at k.memory a =
      λ a here. w.kept a (λ clean. used (ap (state_of k.tables) (sym here) ∙ clean)) in
      let next : next_address n ≡ next_address k.memory = omega arith in
      record {
        pending = ap (λ (s : ℕ). expected_at n s (next_address n)) active
            ∙ ap (expected_at n k.memory.active) next
            ∙ expected_at-same k.memory n k.memory.active (next_address k.memory) kind
            (λ a from below. kept a (omega arith))
            ∙ was.pending;
        fit = omega arith;
        zeros = λ a from below. kept a (omega arith) ∙ was.zeros a (omega arith) (omega arith);
      }

  pub wiped_store : IsStore q
  wiped_store = record {
    whole = alike_files p q alike store.whole parts store.whole.records;
    log = log;
    ready = ready;
    parents = record { records = store.parents.records; holders = store.parents.holders };
    once = store.once;
    few = store.few;
    within = λ i block f is can locked. store.within i block f (sym (record_kept i) ∙ is) can locked;
  }
