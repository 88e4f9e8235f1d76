-- A log that is built again from what a crash left of a store has the store's files: the same numbers are in use, each
-- at its version, with the record at the same place (`same_row`, `same_none`), and each block has the address and the
-- bytes that it had (`same_readings`). So each key has the place that it had (`same_place`).
use Rattle.std.proofs.Common.{◌≡◌, ℕ, ◌*◌, ◌<◌, ◌↔◌, inl, inr, true, false, List, Option, None, Some, length}
use Rattle.std.proofs.Common.{get_or, refl, sym, ap, subst, ◌∙◌, arith}
use Rattle.std.proofs.lemmas.Bool.{cases_Bool, cases_eq, cond-true, false≢true}
use Rattle.lfs_types.proofs.Somewhere.{there_of, present}
use Rattle.lfs_ifile.specs.declared.inode.InodePlace.{InodePlace}
use Rattle.lfs_ifile.specs.Tables.{place_of, row_of}
use Rattle.lfs_inodes.specs.Reading.{fields_in}
use Rattle.lfs_inodes.specs.Slots.{slot_of}
use Rattle.lfs_segments.specs.Memory.{SegmentMemory, block_at}
use Rattle.lfs_cache.specs.declared.key.Key.{Key}
use Rattle.lfs_cache.specs.Contents.{block_in}
use Rattle.lfs_bmap.specs.declared.blocks.TheConstants.{BLOCK_CODES}
use Rattle.lfs_bmap.specs.Reading.{SameReadings, address}
use Rattle.lfs_bmap.specs.Ways.{code_at, way_of}
use Rattle.lfs_bmap.proofs.ReadingLemmas.{kept_blocks}
use Rattle.lfs_bmap.proofs.WayLemmas.{way_of-known}
use Rattle.lfs_log.specs.Parts.{LogParts}
use Rattle.lfs_parts.specs.declared.parts.Parts.{Parts}
use Rattle.lfs_parts.specs.Keys.{log_state}
use Rattle.lfs_parts.specs.View.{key_of, record_of, root_in, tree_of, version_of}
use Rattle.lfs_parts.proofs.FileLemmas.{free_place}
use Rattle.lfs_parts.proofs.KeyLemmas.{place-block, placed_at, unused_nowhere}
use Rattle.lfs_parts.proofs.ViewLemmas.{record_of-logged, record_of-unused}
use Rattle.lfs_logstore.specs.States.{state_of}
use Rattle.lfs_calls.specs.Volumes.{HasWorld}
use Rattle.lfs_reach.specs.Reach.{Reaches}
use Rattle.lfs_fsck.specs.Stored.{flushed, keys_of}
use Rattle.lfs_fsck.proofs.FlushedLemmas.{used_row}
use Rattle.lfs_fsck.proofs.KeyLemmas.{free_nowhere}
use Rattle.lfs_durable.specs.Crashes.{IsCrashOf}
use Rattle.lfs_durable.specs.Names.{IsDurable}
use Rattle.lfs_durable.specs.Spared.{IsHeld, Spares}
use Rattle.lfs_durable.proofs.CrashLemmas.{crash_spares}
use Rattle.lfs_durable.proofs.LabelLemmas.{numbers_one}
use Rattle.lfs_durable.proofs.NameLemmas.{IsUsed, finds_spared_names}
use Rattle.lfs_durable.proofs.OwnLemmas.{held_named}
use Rattle.lfs_durable.proofs.PlaceLemmas.{logged, newest_one, place_is, some_address, there}
use Rattle.lfs_durable.proofs.SparedLemmas.{block_held, record_held}
use Rattle.lfs_rescue.specs.Rebuilt.{IsDraft}
use Rattle.lfs_rescue.specs.Recovering.{HasNewest, IsRecovered}
use Rattle.lfs_rescue.proofs.OverLemmas.{held_ahead}

-- a store that showed a tree, what a crash left of its log, and a log that is built again from that
pub record IsAgain (p : Parts) (m : SegmentMemory) (l : LogParts) : Type 0 where
  pub durable : IsDurable p
  pub shown : HasWorld (state_of p)
  pub crash : IsCrashOf p m
  pub draft : IsDraft m l

-- a number has the row that it had, in use
pub record HasRow (p : Parts) (l : LogParts) (number : ℕ) : Type 0 where
  pub used : (row_of l.tables number).used ≡ true
  pub address : (row_of l.tables number).address ≡ (row_of p.log.tables number).address
  pub slot : (row_of l.tables number).slot ≡ (row_of p.log.tables number).slot
  pub version : (row_of l.tables number).version ≡ (row_of p.log.tables number).version

-- the newest record of a number in use has the number's version
version_is : (p : Parts) (d : IsDurable p) (number : ℕ) (used : IsUsed p number)
    → (there p d number used).newest.version ≡ version_of p number
version_is p d number used =
    let row = row_of p.log.tables number in
    let s = there p d number used in
    let is = s.found.0 in
    let read : record_of p number ≡ Some is.fields =
    logged p d number used
    ∙ ap (λ (a : ℕ). fields_in (slot_of (block_at p.log.memory a) row.slot)) (sym s.address)
    ∙ ap (λ (k : ℕ). fields_in (slot_of (block_at p.log.memory s.newest.address) k)) (sym s.slot) ∙ is.read in
    is.version ∙ (d.store.whole.files number is.fields read).own_version

module _ (p : Parts) (m : SegmentMemory) (l : LogParts) (g : IsAgain p m l) where
  abbrev d : IsDurable p
  d = g.durable

  pub spares : Spares p m
  spares = crash_spares p m d g.crash

  abbrev r : IsRecovered m l
  r = g.draft.recovered

  pub same_segments : l.memory.segments ≡ p.log.memory.segments
  same_segments = g.draft.recovered.segments ∙ g.crash.segments

  -- the label tells how many inode numbers there are
  pub same_numbers : length l.tables.rows ≡ length p.log.tables.rows
  same_numbers =
      let least = d.store.whole.parts.laid_out.at_least in
      let most = d.store.whole.parts.formed.inodes_most in
      let most_too = g.draft.parts.formed.inodes_most in
      let segments = g.crash.segments in
      let end = r.ends.end in
      let first : block_at l.memory 0 ≡ block_at m 0 =
      (r.kept 0 (omega arith)).same (λ behind. let past = behind.1 in absurd (omega arith))
      (λ over. let from = over.past.from in absurd (omega arith)) in
      numbers_one l.memory.segments (length l.tables.rows) p.log.memory.segments (length p.log.tables.rows)
      (omega arith) (omega arith) (sym g.draft.labelled ∙ first ∙ g.crash.label ∙ d.labelled)

  -- a block that the store holds is kept
  pub kept_held : (address : ℕ) → IsHeld p address → block_at l.memory address ≡ block_at p.log.memory address
  kept_held address held =
      let inside = (held_named p d address held).inside in
      let segments = g.crash.segments in
      let end = r.ends.end in
      (r.kept address (omega arith)).same
      (λ behind. let past = behind.1 in
      spares.ends r.last r.logged r.latest address held (behind.0 ∙ r.ends.active, omega arith))
      (λ over. held_ahead p m d g.crash address held over.past)
      ∙ spares.held address held

  -- ---- numbers
  -- names lead to those in use
  leads_to : (number : ℕ) → Reaches m r.places number ↔ IsUsed p number
  leads_to number =
      let w = g.shown.1 in finds_spared_names p m g.shown.0 r.places number d spares w.shows w.tree (record { each = r.newest })

  pub was_used : (number : ℕ) → number < length p.log.tables.rows → (at : InodePlace)
      → place_of l.tables number ≡ Some at → IsUsed p number
  was_used number low at is =
      let numbers = same_numbers in
      (leads_to number).0 ((r.named number (omega arith)).0 (present is))

  none_by : (number : ℕ) → number < length p.log.tables.rows → (row_of p.log.tables number).used ≡ false
      → (o : Option InodePlace) → place_of l.tables number ≡ o → o ≡ None
  none_by number low free None is = refl
  none_by number low free (Some at) is = absurd (false≢true (sym free ∙ was_used number low at is))

  pub same_none : (number : ℕ) → number < length p.log.tables.rows → (row_of p.log.tables number).used ≡ false
      → place_of l.tables number ≡ None
  same_none number low free = none_by number low free (place_of l.tables number) refl

  pub same_row : (number : ℕ) → number < length p.log.tables.rows → IsUsed p number → HasRow p l number
  same_row number low used =
      let numbers = same_numbers in
      let most = d.store.whole.parts.formed.inodes_most in
      let reached : Reaches m r.places number = (leads_to number).1 used in
      let some = there_of (place_of l.tables number) ((r.named number (omega arith)).1 reached) in
      let row = used_row (row_of l.tables number) some.value some.is in
      let s = there p d number used in
      let same : get_or r.places number None ≡ Some s.newest =
      newest_one p.log.memory d.next number (get_or r.places number None) s.newest
      (d.recoverable.to d.next d.serial d.bound)
      (spares.newest number (get_or r.places number None) used (r.newest number (omega arith))) s.found in
      let has : HasNewest (Some some.value) (Some s.newest) =
      subst (λ (o : Option InodePlace). HasNewest o (Some s.newest)) some.is
      (subst (HasNewest (place_of l.tables number)) same (r.placed number (omega arith))) in
      record {
        used = row.0;
        address = sym row.1 ∙ has.0 ∙ s.address;
        slot = sym row.2 ∙ has.1.0 ∙ s.slot;
        version = sym row.3 ∙ has.1.1 ∙ version_is p d number used;
      }

  -- ---- records
  used_record : (number : ℕ) → number < length p.log.tables.rows → IsUsed p number
      → record_of (flushed l) number ≡ record_of p number
  used_record number low used =
      let row = row_of p.log.tables number in
      let own = row_of l.tables number in
      let same = same_row number low used in
      record_of-logged (flushed l) number (record { addr = own.address; slot = own.slot; version = own.version })
      (cond-true _ _ _ same.used) refl
      ∙ ap (λ (a : ℕ). fields_in (slot_of (block_at l.memory a) own.slot)) same.address
      ∙ ap (λ (k : ℕ). fields_in (slot_of (block_at l.memory row.address) k)) same.slot
      ∙ ap (λ (b : List ℕ). fields_in (slot_of b row.slot)) (kept_held row.address (record_held p d number used))
      ∙ sym (logged p d number used)

  pub same_record : (number : ℕ) → number < length p.log.tables.rows → record_of (flushed l) number ≡ record_of p number
  same_record number low = elim (cases_Bool (row_of p.log.tables number).used) [
    | inl used ↦ used_record number low used
    | inr free ↦ record_of-unused (flushed l) number (same_none number low free)
        ∙ sym (record_of-unused p number (free_place p number free))
  ]

  -- ---- blocks
  pub same_readings : (number : ℕ) → number < length p.log.tables.rows
      → SameReadings (tree_of p number) (tree_of (flushed l) number)
  same_readings number low =
      kept_blocks (tree_of p number) (tree_of (flushed l) number) (ap root_in (same_record number low))
      (λ way known.
      sym (ap (λ (es : List (Key × List ℕ)). block_in (key_of number (version_of p number) (code_at way)) es)
      d.flushed.no_frame))
      (λ way known some. kept_held (address (tree_of p number) way) (block_held p number way low known some))

  record_place_is : (number : ℕ) → number < length p.log.tables.rows → IsUsed p number
      → (keys_of l).at number 0 ≡ (log_state p).at number 0
  record_place_is number low used =
      let same = same_row number low used in
      let address = same.address in
      let slot = same.slot in
      let at = placed_at l.tables number (λ e. some_address p d number used (sym same.address ∙ e)) in
      let was = place_is p d number used in
      at ∙ omega arith ∙ sym was

  pub same_place : (number code : ℕ) → number < length p.log.tables.rows → code < BLOCK_CODES
      → (keys_of l).at number code ≡ (log_state p).at number code
  same_place number code low below = elim (cases_eq code 0) [
    | inl record_ ↦ elim (cases_Bool (row_of p.log.tables number).used) [
      | inl used ↦ ap ((keys_of l).at number) record_ ∙ record_place_is number low used
          ∙ ap ((log_state p).at number) (sym record_)
      | inr free ↦
          let numbers = same_numbers in
          free_nowhere l number code g.draft.parts (omega arith) (same_none number low free)
          ∙ sym (unused_nowhere p number code (free_place p number free) low d.store.whole)
    ]
    | inr block ↦ place-block (flushed l) number code block
        ∙ ap (λ (a : ℕ). 4 * a) ((same_readings number low).addresses (way_of code) (way_of-known code below))
        ∙ sym (place-block p number code block)
  ]
