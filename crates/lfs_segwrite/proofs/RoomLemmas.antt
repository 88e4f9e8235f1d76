-- Opening a clean segment keeps every file, key and frame: `opens_segment`, for `room::open_segment`. Each key that has
-- a place has it in a segment that isn't clean (`away`), so the blocks of all records and files are outside of the
-- zeros; a record without an address is read off block 0, the label, which an opening leaves (`label_kept`). Were a
-- segment counted clean while a key lies in it, its blocks would be gone here.
use Rattle.std.proofs.Common.{◌≡◌, ◌≢◌, ℕ, zero, suc, ◌+◌, ◌-◌, ◌*◌, ◌/◌, ◌<◌, ◌≤◌, List, [], length, None, Some}
use Rattle.std.proofs.Common.{Option, option_map, is_some, refl, sym, ap, ◌∙◌, subst, inl, inr, arith}
use Rattle.std.specs.Prelude.{slice_index, true}
use Rattle.std.proofs.lemmas.Bool.{cases_Bool, cases_eq, cases_lt, cond-true, cond-false}
use Rattle.std.proofs.lemmas.List.{get_or_past}
use Rattle.lfs_types.specs.Tree.{File, file_of, content_with}
use Rattle.lfs_inodes.specs.Attributes.{stat_of}
use Rattle.lfs_ifile.specs.declared.inode.InodeRow.{InodeRow}
use Rattle.lfs_ifile.specs.declared.segment.SegState.TheVariants.{Clean}
use Rattle.lfs_ifile.specs.Inode.{fresh_row}
use Rattle.lfs_ifile.specs.Tables.{row_of}
use Rattle.lfs_inodes.specs.declared.inode.Inode.{Inode}
use Rattle.lfs_inodes.specs.Reading.{Fields, fields_in}
use Rattle.lfs_inodes.specs.Slots.{slot_of}
use Rattle.lfs_segments.specs.Log.{Expects, first_of}
use Rattle.lfs_segments.specs.Memory.{block_at, log_start, opened}
use Rattle.lfs_segments.proofs.RisingLemmas.{rising-opened}
use Rattle.lfs_found.proofs.RecoverableLemmas.{opens_recoverable}
use Rattle.lfs_segments.proofs.WritingLemmas.{block_at-opened_apart, block_at-opened_other}
use Rattle.lfs_log.specs.Parts.{IsParts, LogParts, opened_parts, record_place, state_of}
use Rattle.lfs_log.specs.Parts as log
use Rattle.lfs_bmap.specs.declared.blocks.TheConstants.{BLOCK_CODES}
use Rattle.lfs_bmap.specs.Log.{IsPlaced, Opens, SameKeys}
use Rattle.lfs_bmap.specs.Pieces.{IsPadded, file_bytes}
use Rattle.lfs_bmap.specs.Reading.{SameReadings, address, data_block}
use Rattle.lfs_bmap.specs.Ways.{IsBlockWay, code_at, way_of}
use Rattle.lfs_bmap.proofs.MoveLemmas.{StaysDirty-opened}
use Rattle.lfs_bmap.proofs.PlaceLemmas.{data_block-same}
use Rattle.lfs_bmap.proofs.ReadingLemmas.{address-root, kept_blocks}
use Rattle.lfs_bmap.proofs.SegmentLemmas.{opened_log}
use Rattle.lfs_bmap.proofs.WayLemmas.{known_way_of, way_of-known, way_of-zero}
use Rattle.lfs_parts.specs.declared.parts.Parts.{Parts}
use Rattle.lfs_parts.specs.Files.{content_below, content_of, file_at, file_with}
use Rattle.lfs_parts.specs.Keys.{log_state}
use Rattle.lfs_segwrite.specs.Room.{OpensSegment}
use Rattle.lfs_parts.specs.Store.{AreFiles, IsFile, IsStore}
use Rattle.lfs_parts.specs.View.{record_of, root_in, tree_of, waiting_in}
use Rattle.lfs_parts.proofs.CleanLemmas.{mirrors_read}
use Rattle.lfs_parts.proofs.FileLemmas.{file_at-record, record_of-past}
use Rattle.lfs_parts.proofs.KeyLemmas.{place-block, place-record, placed_at, unused_waits}
use Rattle.lfs_parts.proofs.ViewLemmas.{nowhere, record_of-logged, record_of-unused, record_of-waiting}
use Rattle.lfs_bmap.specs.Blocks.{way_to}
use Rattle.lfs_parts.proofs.SameLogLemmas.{block_known, used_low}
use Rattle.lfs_segwrite.proofs.OrderedLemmas.{opened_ordered}

-- ---- parts whose files read the same
below_same : (old new : ℕ → Option File) → ((n : ℕ) → new n ≡ old n) → (n : ℕ) → content_below new n
    ≡ content_below old n
unfolding content_below
below_same old new same zero = refl
below_same old new same (suc n) =
    ap (λ f. content_with n f (content_below new n)) (same n) ∙ ap (content_with n (old n)) (below_same old new same n)

module _ (old new : Parts) (records : (n : ℕ) → record_of new n ≡ record_of old n) (readings : (n : ℕ)
    → SameReadings (tree_of old n) (tree_of new n)) where
  pub blocks_alike : (n : ℕ) → data_block (tree_of new n) ≡ data_block (tree_of old n)
  blocks_alike n = λ i k. data_block-same (tree_of old n) (tree_of new n) (readings n) k i

  pub file_alike : (n : ℕ) → file_at new n ≡ file_at old n
  file_alike n =
      file_at-record new n ∙ ap (option_map (file_with (tree_of new n))) (records n)
      ∙ ap (λ (g : ℕ → List ℕ). option_map (λ (f : Fields). file_of (stat_of f.attributes)
      (file_bytes g f.attributes.size)) (record_of old n)) (blocks_alike n)
      ∙ sym (file_at-record old n)

  pub content_alike : length new.log.tables.rows ≡ length old.log.tables.rows → content_of new ≡ content_of old
  unfolding content_of
  content_alike whole =
      ap (content_below (file_at new)) whole ∙ below_same (file_at old) (file_at new) file_alike
      (length old.log.tables.rows)

-- the parts with another log
abbrev pub with_log : Parts → LogParts → Parts
with_log p l = record p { log = l }

-- ---- a clean segment is opened
module _ (p : Parts) (s : ℕ) (store : IsStore p) (inside : s < p.log.memory.segments)
    (was_clean : state_of p.log.tables s ≡ Clean) where
  -- the parts with the segment opened
  abbrev q : Parts
  q = with_log p (opened_parts p.log s)

  -- no key lies in the segment
  away : (n c : ℕ) → IsPlaced (log_state p) n c → (a : ℕ) → (log_state p).at n c / 256 ≡ a / 64 → a / 64 ≢ s
  away n c there a same here = (store.log.keys n c there).not_clean (ap (state_of p.log.tables) (same ∙ here)
      ∙ was_clean)

  label_kept : block_at (opened p.log.memory s) 0 ≡ block_at p.log.memory 0
  label_kept = block_at-opened_other p.log.memory s store.whole.parts.laid_out inside 0 (inl (begins s))
    where
      begins : (t : ℕ) → 0 < first_of t
      begins zero = omega arith
      begins (suc t) = omega arith

  apart_kept : (a : ℕ) → a / 64 ≢ s → block_at (opened p.log.memory s) a ≡ block_at p.log.memory a
  apart_kept a other = block_at-opened_apart p.log.memory s store.whole.parts.laid_out inside a other

  -- the block of a record in the log stays
  record_block : (n : ℕ) → (row_of p.log.tables n).used ≡ true
      → block_at (opened p.log.memory s) (row_of p.log.tables n).address
      ≡ block_at p.log.memory (row_of p.log.tables n).address
  record_block n used =
      let row = row_of p.log.tables n in
      elim (cases_eq row.address 0) [
        | inl none ↦ ap (block_at (opened p.log.memory s)) none ∙ label_kept ∙ ap (block_at p.log.memory) (sym none)
        | inr some ↦
            let low = used_low p n used in
            let slot = (store.whole.parts.formed.each_row n fresh_row low).slot in
            let at : (log_state p).at n 0 ≡ 4 * row.address + row.slot = place-record p n
            ∙ placed_at p.log.tables n some in
            let there : IsPlaced (log_state p) n 0 =
            record { number_below = low; code_below = omega arith; somewhere = λ e. some (omega arith) } in
            apart_kept row.address (away n 0 there row.address (omega arith))
      ]

  record_kept_at : (n : ℕ) → (row_of p.log.tables n).used ≡ true → (o : Option Inode) → waiting_in p.waiting n ≡ o
      → record_of q n ≡ record_of p n
  record_kept_at n used None w =
      record_of-logged q n _ (cond-true _ _ _ used) w
      ∙ ap (λ b. fields_in (slot_of b (row_of p.log.tables n).slot)) (record_block n used)
      ∙ sym (record_of-logged p n _ (cond-true _ _ _ used) w)
  record_kept_at n used (Some v) w =
      record_of-waiting q n _ v (cond-true _ _ _ used) w ∙ sym (record_of-waiting p n _ v (cond-true _ _ _ used) w)

  -- so each number has its record
  record_kept : (n : ℕ) → record_of q n ≡ record_of p n
  record_kept n = elim (cases_Bool (row_of p.log.tables n).used) [
    | inl used ↦ record_kept_at n used (waiting_in p.waiting n) refl
    | inr free ↦ record_of-unused q n (cond-false _ _ _ free) ∙ sym (record_of-unused p n (cond-false _ _ _ free))
  ]

  -- a block with an address lies in a segment that is in use
  block_away : (n : ℕ) (way : List ℕ) → IsBlockWay way → address (tree_of p n) way ≢ 0
      → address (tree_of p n) way / 64 ≢ s
  block_away n way known some =
      elim (cases_lt n (length p.log.tables.rows)) [
        | inr past ↦
            let row : row_of p.log.tables n ≡ fresh_row = get_or_past p.log.tables.rows n fresh_row past in
            let root : (tree_of p n).root ≡ [] = ap root_in (record_of-past p n past) in
            absurd (some (nowhere (tree_of p n) (λ i. ap (λ ys. slice_index ys i) root)
            (unused_waits p n (ap (λ (r : InodeRow). r.used) row) store.whole) way))
        | inl low ↦
            let code = code_at way in
            let is : way_of code ≡ way = known_way_of way known in
            let other : code ≢ 0 = λ e. some (ap (address (tree_of p n)) (sym is ∙ ap way_of e ∙ way_of-zero)
            ∙ address-root (tree_of p n)) in
            let at : (log_state p).at n code ≡ 4 * address (tree_of p n) way = place-block p n code other
            ∙ ap (λ w. 4 * address (tree_of p n) w) is in
            let there : IsPlaced (log_state p) n code =
            record { number_below = low; code_below = known.coded; somewhere = λ e. some (omega arith) } in
            away n code there (address (tree_of p n) way) (omega arith)
      ]

  -- and each block its address and its bytes
  readings_kept : (n : ℕ) → SameReadings (tree_of p n) (tree_of q n)
  readings_kept n =
      kept_blocks (tree_of p n) (tree_of q n) (ap root_in (record_kept n)) (λ way known. refl)
      (λ way known some. apart_kept (address (tree_of p n) way) (block_away n way known some))

  record_same : (n : ℕ) → (log_state q).at n 0 ≡ (log_state p).at n 0
  unfolding record_place
  record_same n = refl

  place_same : (n c : ℕ) → c < BLOCK_CODES → (log_state q).at n c ≡ (log_state p).at n c
  place_same n c below = elim (cases_eq c 0) [
    | inl e ↦ ap ((log_state q).at n) e ∙ record_same n ∙ ap ((log_state p).at n) (sym e)
    | inr some ↦ place-block q n c some ∙ ap (λ a. 4 * a)
        ((readings_kept n).addresses (way_of c) (way_of-known c below)) ∙ sym (place-block p n c some)
  ]

  keys_kept : SameKeys (log_state p) (log_state q)
  keys_kept = record {
    numbers = refl;
    segments = refl;
    places = λ n c low below. place_same n c below;
    versions = λ n low. refl;
  }

  file_kept : (n : ℕ) (f : Fields) → record_of q n ≡ Some f → IsFile q n f
  file_kept n f is =
      let file = store.whole.files n f (sym (record_kept n) ∙ is) in
      record {
        formed = file.formed;
        own_number = file.own_number;
        own_version = file.own_version;
        none_past = λ block can past. (readings_kept n).addresses (way_to block) (block_known block can)
            ∙ file.none_past block can past;
        padded = subst (λ (g : ℕ → List ℕ). IsPadded g f.attributes.size)
            (sym (blocks_alike p q record_kept readings_kept n)) file.padded;
      }

  files_kept : IsParts (opened_parts p.log s) → AreFiles q
  files_kept parts = record {
    parts = parts;
    cache = store.whole.cache;
    reserved = store.whole.reserved;
    recorded = λ n used. ap is_some (record_kept n) ∙ store.whole.recorded n used;
    files = file_kept;
    records = λ k d low. let there = store.whole.records k d low in
        record { in_use = there.in_use; at_version = there.at_version };
    frames = λ key locked. let there = store.whole.frames key locked in
        record { in_use = there.in_use; at_version = there.at_version };
    coded = store.whole.coded;
    mirrors = mirrors_read p q store.whole.mirrors store.whole.cache refl
        (λ n version there. record { in_use = there.in_use; at_version = there.at_version })
        (λ n low. readings_kept n);
  }

  -- the whole
  opened_segment : Expects (opened p.log.memory s) [] → IsParts (opened_parts p.log s) → 0 < p.log.clean
      → ((at : ℕ → ℕ → ℕ) → Opens (log.log_state p.log at) (log.log_state (opened_parts p.log s) at) s)
      → OpensSegment p q
  opened_segment ready parts some step =
      let o = step (log_state p).at in
      let opens : Opens (log_state p) (log_state q) s = record {
        keys = keys_kept;
        inside = o.inside;
        was_clean = o.was_clean;
        active = o.active;
        from = o.from;
        to = o.to;
        is_active = o.is_active;
        is_dirty = o.is_dirty;
        states = o.states;
        clean = o.clean;
        live = o.live;
        owners = o.owners;
      } in
      record {
        store = record {
          whole = files_kept parts;
          log = opened_log (log_state p) (log_state q) 0 s store.log opens;
          ready = ready;
          parents = record { records = store.parents.records; holders = store.parents.holders };
          once = store.once;
          few = store.few;
          within = λ n block f is can locked. store.within n block f (sym (record_kept n) ∙ is) can locked;
        };
        files = record {
          serials = refl;
          rising = rising-opened p.log.memory s store.whole.parts.laid_out opens.inside;
          whole = opens_recoverable p.log.memory s opens.inside parts.laid_out;
          ordered = opened_ordered p s store opens.inside was_clean;
          rows = refl;
          cache = refl;
          waiting = refl;
          content = content_alike p q record_kept readings_kept refl;
          records = record_kept;
          readings = readings_kept;
          keys = keys_kept;
          dirty = StaysDirty-opened (log_state p) (log_state q) 0 s store.log opens;
          blocks = λ a used. apart_kept a (λ here. used (ap (state_of p.log.tables) here ∙ was_clean));
          label = label_kept;
          end = inr (was_clean, refl);
        };
        room = starts s;
        clean = o.clean;
        was_clean = was_clean;
      }
    where
      starts : (t : ℕ) → 64 ≤ 64 - log_start t + 1
      starts zero = omega arith
      starts (suc t) = omega arith

-- what a call that opened a segment left
pub opens_segment : (p : Parts) (l : LogParts) (s : ℕ) → IsStore p → s < p.log.memory.segments → state_of p.log.tables s
    ≡ Clean → 0 < p.log.clean
    → l ≡ opened_parts p.log s → Expects l.memory [] → IsParts l
    → ((at : ℕ → ℕ → ℕ) → Opens (log.log_state p.log at) (log.log_state l at) s)
    → OpensSegment p (with_log p l)
opens_segment p l s store inside was_clean some is ready parts step =
    subst (λ m. OpensSegment p (with_log p m)) (sym is)
    (opened_segment p s store inside was_clean (subst (λ (m : LogParts). Expects m.memory []) is ready)
    (subst IsParts is parts) some
    (λ at. subst (λ m. Opens (log.log_state p.log at) (log.log_state m at) s) is (step at)))
