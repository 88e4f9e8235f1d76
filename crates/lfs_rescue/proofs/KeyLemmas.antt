-- Each key of a log that is built again has a good place (`good_key`): the log names it there (`same_owner`), since the
-- blocks before a block of the store are as they were (`same_before`), and so is the entry (`same_entry`); its segment
-- is not clean (`not_clean`); and it lies before the end (`written`).
use Rattle.std.proofs.Common.{◌≡◌, ◌≢◌, ℕ, ◌-◌, ◌*◌, ◌/◌, ◌<◌, ◌≤◌, inl, inr, true, List, Option, None, Some}
use Rattle.std.proofs.Common.{length, is_some, refl, sym, ap, subst, ◌∙◌, arith}
use Rattle.std.proofs.lemmas.Bool.{cases_Bool, cases_eq, cases_lt}
use Rattle.lfs_ifile.specs.declared.segment.SegState.TheVariants.{Clean}
use Rattle.lfs_ifile.specs.Tables.{row_of}
use Rattle.lfs_inodes.specs.Facts.{block_count}
use Rattle.lfs_inodes.specs.Reading.{Fields}
use Rattle.lfs_segments.specs.Log.{entry_at}
use Rattle.lfs_segments.specs.Memory.{SegmentMemory, block_at, has_serials, next_address}
use Rattle.lfs_segments.proofs.LogLemmas.{entry_at-same}
use Rattle.lfs_bmap.specs.declared.blocks.FileBlock.{FileBlock}
use Rattle.lfs_bmap.specs.declared.blocks.FileBlock.TheVariants.{Single, Double, Child, Data}
use Rattle.lfs_bmap.specs.declared.blocks.TheConstants.{BLOCK_CODES}
use Rattle.lfs_bmap.specs.Blocks.{block_with, first_under, way_to}
use Rattle.lfs_bmap.specs.Counting.{seg_of}
use Rattle.lfs_bmap.specs.Log.{IsPlace, IsPlaced, owner_of}
use Rattle.lfs_bmap.specs.Reading.{address}
use Rattle.lfs_bmap.specs.Ways.{way_of}
use Rattle.lfs_bmap.proofs.BlockLemmas.{block_with-code_of}
use Rattle.lfs_bmap.proofs.WayLemmas.{way_of-code_of}
use Rattle.lfs_log.specs.Parts.{LogParts, state_of}
use Rattle.lfs_log.proofs.NameLemmas.{named_at-same}
use Rattle.lfs_recovery.specs.Logs.{log_place}
use Rattle.lfs_parts.specs.declared.parts.Parts.{Parts}
use Rattle.lfs_parts.specs.Keys.{log_state}
use Rattle.lfs_parts.specs.Store.{IsBlockCode, IsWithin}
use Rattle.lfs_parts.specs.View.{record_of, tree_of}
use Rattle.lfs_parts.proofs.FileLemmas.{free_place}
use Rattle.lfs_parts.proofs.KeyLemmas.{place-block, unused_nowhere}
use Rattle.lfs_fsck.specs.Checks.{IsKept, IsKey}
use Rattle.lfs_fsck.specs.Stored.{keys_of}
use Rattle.lfs_fsck.proofs.NameLemmas.{owner}
use Rattle.lfs_durable.specs.Crashes.{IsLeft}
use Rattle.lfs_durable.specs.Names.{IsDurable}
use Rattle.lfs_durable.specs.Spared.{IsHeld}
use Rattle.lfs_durable.proofs.NameLemmas.{IsUsed}
use Rattle.lfs_rescue.specs.Recovering.{GoesOn, IsBehind}
use Rattle.lfs_rescue.proofs.OverLemmas.{held_ahead}
use Rattle.lfs_rescue.proofs.SameLemmas.{IsAgain, kept_held, same_numbers, same_place, same_record, same_row}
use Rattle.lfs_rescue.proofs.SameLemmas.{same_segments, spares}

goes_on : (o : Option ℕ) (last : ℕ) → GoesOn o last → is_some o ≡ true
goes_on None last h = absurd h
goes_on (Some serial) last h = refl

-- each code but the record's is that of a block
coded : (code : ℕ) → code < BLOCK_CODES → code ≢ 0 → IsBlockCode code
coded code low other = elim (cases_eq code 1) [
  | inl one ↦ record { block = Single; is = tt; coded = sym one; other = other }
  | inr not_one ↦ elim (cases_eq code 2) [
    | inl two ↦ record { block = Double; is = tt; coded = sym two; other = other }
    | inr not_two ↦ elim (cases_lt code 131) [
      | inl child ↦ record { block = Child (code - 3); is = omega arith; coded = omega arith; other = other }
      | inr data_ ↦ record { block = Data (code - 131); is = omega arith; coded = omega arith; other = other }
    ]
  ]
]

-- no key lies in a clean segment
abbrev pub HasNoneInClean : LogParts → Type 0
HasNoneInClean l = (number code segment : ℕ) → number < length l.tables.rows → code < BLOCK_CODES
    → segment < l.memory.segments → (keys_of l).at number code ≢ 0 → seg_of ((keys_of l).at number code) ≡ segment
    → state_of l.tables segment ≢ Clean

module _ (p : Parts) (m : SegmentMemory) (l : LogParts) (g : IsAgain p m l) (dirty : HasNoneInClean l) where
  abbrev d : IsDurable p
  d = g.durable

  pub serials : has_serials l.memory ≡ true
  serials = let r = g.draft.recovered in goes_on l.memory.serial r.last.serial r.ends.serial

  -- ---- entries
  -- nothing that the store holds stands behind the end
  pub before_end : (a : ℕ) → IsHeld p a → IsBehind l.memory a → ⊥
  before_end a held behind =
      let r = g.draft.recovered in
      let end = r.ends.end in
      let past = behind.1 in
      (spares p m l g).ends r.last r.logged r.latest a held (behind.0 ∙ r.ends.active, omega arith)

  -- the blocks before one that the store holds, in its segment
  left_before : (a x : ℕ) (held : IsHeld p a) → a / 64 * 64 ≤ x → x < a → IsLeft p m (a / 64)
      → block_at m x ≡ block_at p.log.memory x
  left_before a x held from below left =
      let key = d.store.log.keys held.number held.code held.placed in
      let here = held.here in
      let segment : (log_state p).at held.number held.code / 256 ≡ a / 64 = omega arith in
      let dirty : state_of p.log.tables (a / 64) ≢ Clean =
      subst (λ (k : ℕ). state_of p.log.tables k ≢ Clean) segment key.not_clean in
      let inside : x / 64 ≡ a / 64 = omega arith in
      elim left [
        | inl same ↦ same.each x inside
        | inr (inl torn) ↦
            let active = torn.active in
            let before = key.written (segment ∙ active) in
            torn.before x inside (omega arith)
        | inr (inr (inl wiped)) ↦ absurd (dirty wiped.clean)
        | inr (inr (inr barren)) ↦ absurd (dirty barren.clean)
      ]

  same_before : (a x : ℕ) → IsHeld p a → a / 64 * 64 ≤ x → x < a → block_at l.memory x ≡ block_at p.log.memory x
  same_before a x held from below =
      let key = d.store.log.keys held.number held.code held.placed in
      let here = held.here in
      let in_volume = key.in_volume in
      let segments = g.crash.segments in
      let inside : x / 64 ≡ a / 64 = omega arith in
      (g.draft.recovered.kept x (omega arith)).same
      (λ behind. let past = behind.1 in before_end a held (sym inside ∙ behind.0, omega arith))
      (λ over.
      let first = over.past.from in
      held_ahead p m d g.crash a held (record {
        from = subst (λ (s : ℕ). log_place s ≤ a) inside (omega arith);
        past = λ q logged own. let before = over.past.past q logged (own ∙ sym inside) in omega arith;
      }))
      ∙ left_before a x held from below (g.crash.each (a / 64) (omega arith))

  pub same_entry : (a : ℕ) → IsHeld p a → entry_at l.memory a ≡ entry_at p.log.memory a
  same_entry a held =
      let kind : has_serials p.log.memory ≡ true = ap (λ (o : Option ℕ). is_some o) d.serial in
      entry_at-same p.log.memory l.memory a (serials ∙ sym kind) (λ x from below. same_before a x held from below)

  -- ---- keys that have a place
  module _ (number code : ℕ) (low : number < length p.log.tables.rows) (below : code < BLOCK_CODES)
      (some : (keys_of l).at number code ≢ 0) where
    abbrev place : ℕ
    place = (log_state p).at number code

    had_place : IsPlaced (log_state p) number code
    had_place = record {
      number_below = low;
      code_below = below;
      somewhere = λ none. some (same_place p m l g number code low below ∙ none);
    }

    key : IsPlace (log_state p) number code place
    key = d.store.log.keys number code had_place

    held : IsHeld p (place / 4)
    held = record { number = number; code = code; placed = had_place; here = refl }

    -- its number is in use
    in_use : IsUsed p number
    in_use = elim (cases_Bool (row_of p.log.tables number).used) [
      | inl used ↦ used
      | inr free ↦ absurd (had_place.somewhere
          (unused_nowhere p number code (free_place p number free) low d.store.whole))
    ]

    same_owner : (keys_of l).owner place ≡ Some (owner_of (keys_of l) number code)
    same_owner =
        named_at-same p.log.memory l.memory place (same_entry (place / 4) held) (kept_held p m l g (place / 4) held)
        ∙ key.owned ∙ ap (λ (v : ℕ). Some (owner number v code)) (sym (same_row p m l g number low in_use).version)

    not_clean : state_of l.tables (seg_of place) ≢ Clean
    not_clean =
        let numbers = same_numbers p m l g in
        let segments = same_segments p m l g in
        let in_volume = key.in_volume in
        let same = same_place p m l g number code low below in
        dirty number code (seg_of place) (omega arith) below (omega arith) some (ap seg_of same)

    written : seg_of place ≡ l.memory.active → place < 4 * next_address l.memory
    written here = elim (cases_lt place (4 * next_address l.memory)) [
      | inl before ↦ before
      | inr past ↦ absurd (before_end (place / 4) held (omega arith, omega arith))
    ]

    -- a block of a file lies below its size
    block_within : (f : Fields) → record_of p number ≡ Some f → code ≢ 0 → IsBlockCode code
        → IsWithin (block_with code) f.attributes.size
    block_within f is other c = elim (cases_lt (first_under c.block) (block_count f.attributes.size)) [
      | inl less ↦ subst (λ (b : FileBlock). IsWithin b f.attributes.size)
          (sym (block_with-code_of c.block c.is) ∙ ap block_with c.coded) less
      | inr past ↦
          let none : address (tree_of p number) (way_to c.block) ≡ 0 =
          (d.store.whole.files number f is).none_past c.block c.is past in
          let way = sym (way_of-code_of c.block c.is) ∙ ap way_of c.coded in
          let at = place-block p number code other
          ∙ ap (λ (v : List ℕ). 4 * address (tree_of p number) v) (sym way) in
          absurd (had_place.somewhere (omega arith))
    ]

    good_place : IsPlace (keys_of l) number code place
    good_place = record {
      in_volume = let in_volume = key.in_volume in let segments = same_segments p m l g in omega arith;
      owned = same_owner;
      not_clean = not_clean;
      written = written;
    }

    found_key : IsKey l number code
    found_key = record {
      place = subst (IsPlace (keys_of l) number code) (sym (same_place p m l g number code low below)) good_place;
      within = λ f is other. block_within f (sym (same_record p m l g number low) ∙ is) other (coded code below other);
    }

  pub good_key : (number code : ℕ) → number < length p.log.tables.rows → code < BLOCK_CODES → IsKept l number code
  good_key number code low below = λ some. found_key number code low below some
