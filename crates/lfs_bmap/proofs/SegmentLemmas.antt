-- `IsLog` holds of a new log, behind an opening and behind a cleaning (`empty_log`, `opened_log`, `cleaned_log`, for
-- OpeningLemmas of `lfs_parts`, RoomLemmas of `lfs_segwrite` and ReclaimLemmas of `lfs_logstore`). A clean segment
-- has no key, since each key's place lies in one that isn't (`not_in_clean`), so what it named may go; and a segment
-- without live bytes has none, as live bytes are a sum over keys (`empty_has_none`). Were `live` not counted from all
-- keys, cleaning could take a block that a file has.
use Rattle.std.proofs.Common.{◌≡◌, ◌≢◌, ℕ, zero, suc, ◌+◌, ◌-◌, ◌*◌, ◌<◌, ◌≤◌, inl, inr, Some, refl, sym, ap, ◌∙◌}
use Rattle.std.proofs.Common.{subst, arith}
use Rattle.std.proofs.lemmas.Bool.{cases_eq}
use Rattle.lfs_ifile.specs.declared.segment.SegState.{SegState}
use Rattle.lfs_ifile.specs.declared.segment.SegState.TheVariants.{Clean, Dirty, Active}
use Rattle.lfs_bmap.specs.declared.blocks.TheConstants.{BLOCK_CODES}
use Rattle.lfs_bmap.specs.Counting.{seg_of, units, total}
use Rattle.lfs_bmap.specs.Log.{LogState, IsPlaced, IsPlace, clean_unit, AreSegments, IsLog, Opens, Cleans, IsEmptyLog}
use Rattle.lfs_bmap.proofs.CountingLemmas.{total-changed, total-zero, weight-here}
use Rattle.lfs_bmap.proofs.CountingLemmas.{live-none, live-part, live-empty}
use Rattle.lfs_bmap.proofs.LogLemmas.{had_place, place_kept, owner_kept, counted_kept, active_not_clean}
use Rattle.lfs_bmap.proofs.LogLemmas.{dirty_not_clean, dirty_not_active, seg_below, MayTake}

-- a place in a segment that is not clean is not in the one that is
pub not_in_clean : (l : LogState) (spare segment : ℕ) → IsLog l spare → l.state segment ≡ Clean → (n c : ℕ)
    → IsPlaced l n c → seg_of (l.at n c) ≢ segment
not_in_clean l spare segment log clean n c h e = (log.keys n c h).not_clean (ap l.state e ∙ clean)

-- a clean segment has no live bytes
pub clean_is_empty : (l : LogState) (spare segment : ℕ) → IsLog l spare → segment < l.segments → l.state segment ≡ Clean
    → l.live segment ≡ 0
clean_is_empty l spare segment log inside clean =
    log.counted segment inside
    ∙ live-none l.numbers BLOCK_CODES l.at segment (λ n c low below some.
    not_in_clean l spare segment log clean n c (record { number_below = low; code_below = below; somewhere = some }))

-- a segment without live bytes has no key
pub empty_has_none : (l : LogState) (spare segment : ℕ) → IsLog l spare → segment < l.segments → l.live segment ≡ 0
    → (n c : ℕ) → IsPlaced l n c → seg_of (l.at n c) ≢ segment
empty_has_none l spare segment log inside empty n c h =
    live-empty l.numbers BLOCK_CODES l.at segment (sym (log.counted segment inside)
    ∙ empty) n c h.number_below h.code_below h.somewhere

-- Opening a segment keeps the log; nothing is spare then.
module _ (old new : LogState) (spare segment : ℕ) (log : IsLog old spare) (h : Opens old new segment) where
  -- a segment is the opened one, the one that was active, or as it was
  opened_state : (s : ℕ) → s < old.segments → (P : SegState → Type 0) → (s ≡ segment → P Active)
      → (s ≡ old.active → P Dirty) → (s ≢ segment → s ≢ old.active → P (old.state s)) → P (new.state s)
  opened_state s low P here there elsewhere =
      elim (cases_eq s segment) [
        | inl e ↦ subst P (sym (ap new.state e ∙ h.is_active)) (here e)
        | inr ne ↦ elim (cases_eq s old.active) [
          | inl e ↦ subst P (sym (ap new.state e ∙ h.is_dirty)) (there e)
          | inr far ↦ subst P (sym (h.states s low ne far)) (elsewhere ne far)
        ]
      ]

  opened_unit : (s : ℕ) → s < old.segments → s ≢ segment → clean_unit (new.state s) ≡ clean_unit (old.state s)
  opened_unit s low ne =
      opened_state s low (λ state. clean_unit state ≡ clean_unit (old.state s)) (λ e. absurd (ne e))
      (λ e. sym (ap (λ t. clean_unit (old.state t)) e ∙ ap clean_unit log.segments.is_active)) (λ _ _. refl)

  opened_count : new.clean ≡ total (λ s. clean_unit (new.state s)) new.segments
  opened_count =
      let changed = total-changed (λ s. clean_unit (new.state s))
      (λ s. clean_unit (old.state s)) old.segments segment h.inside opened_unit in
      let one : clean_unit (old.state segment) ≡ 1 = ap clean_unit h.was_clean in
      let none : clean_unit (new.state segment) ≡ 0 = ap clean_unit h.is_active in
      let before : old.clean ≡ total (λ s. clean_unit (old.state s)) old.segments = log.segments.clean_count in
      let fewer = h.clean in
      let after : new.clean ≡ total (λ s. clean_unit (new.state s)) old.segments = omega arith in
      after ∙ ap (total (λ s. clean_unit (new.state s))) (sym h.keys.segments)

  opened_segments : AreSegments new
  opened_segments = record {
    inside = let inside = h.inside in let segments = h.keys.segments in let active = h.active in omega arith;
    is_active = ap new.state h.active ∙ h.is_active;
    no_other = λ s low.
        opened_state s (subst (λ n. s < n) h.keys.segments low) (λ state. state ≡ Active → s ≡ new.active) (λ e _. e
        ∙ sym h.active)
        (λ _ is. absurd (dirty_not_active is))
        (λ _ far is. absurd (far (log.segments.no_other s (subst (λ n. s < n) h.keys.segments low) is)));
    from = subst (λ a. 64 * a ≤ new.next) (sym h.active) h.from;
    to = subst (λ a. new.next ≤ 64 * a + 64) (sym h.active) h.to;
    clean_count = opened_count;
  }

  opened_place : (n c : ℕ) → IsPlaced new n c → IsPlace new n c (new.at n c)
  opened_place n c there =
      let was = had_place old new h.keys n c there in
      let place = log.keys n c was in
      let away : seg_of (old.at n c) ≢ segment = not_in_clean old spare segment log h.was_clean n c was in
      let low : seg_of (old.at n c) < old.segments = seg_below (old.at n c) old.segments place.in_volume in
      subst (IsPlace new n c) (sym (place_kept old new h.keys n c there)) (record {
        in_volume = subst (λ m. old.at n c < 256 * m) (sym h.keys.segments) place.in_volume;
        owned = h.owners (old.at n c) away ∙ place.owned ∙ ap Some (owner_kept old new h.keys n c was.number_below);
        not_clean = opened_state (seg_of (old.at n c)) low (λ state. state ≢ Clean) (λ e. absurd (away e))
            (λ _. dirty_not_clean) (λ _ _. place.not_clean);
        written = λ is. absurd (away (is ∙ h.active));
      })

  pub opened_log : IsLog new 0
  opened_log = record {
    segments = opened_segments;
    keys = opened_place;
    counted = λ s low. counted_kept old new h.keys spare s log h.live low;
    spared =
        let empty : new.live new.active ≡ 0 = ap new.live h.active ∙ h.live segment h.inside
        ∙ clean_is_empty old spare segment log h.inside h.was_clean in
        omega arith;
  }

  -- what was dirty stays dirty
  pub opened_dirty : (s : ℕ) → s < old.segments → old.state s ≡ Dirty → new.state s ≡ Dirty
  opened_dirty s low dirty =
      opened_state s low (λ state. state ≡ Dirty)
      (λ e. absurd (dirty_not_clean (sym dirty ∙ ap old.state e ∙ h.was_clean))) (λ _. refl) (λ _ _. dirty)

-- Cleaning a segment keeps the log.
module _ (old new : LogState) (spare segment : ℕ) (log : IsLog old spare) (h : Cleans old new segment) where
  cleaned_other : segment ≢ old.active
  cleaned_other e = dirty_not_active (sym h.was_dirty ∙ ap old.state e ∙ log.segments.is_active)

  cleaned_state : (s : ℕ) → s < old.segments → (P : SegState → Type 0) → (s ≡ segment → P Clean)
      → (s ≢ segment → P (old.state s)) → P (new.state s)
  cleaned_state s low P here elsewhere =
      elim (cases_eq s segment) [
        | inl e ↦ subst P (sym (ap new.state e ∙ h.is_clean)) (here e)
        | inr ne ↦ subst P (sym (h.states s low ne)) (elsewhere ne)
      ]

  cleaned_count : new.clean ≡ total (λ s. clean_unit (new.state s)) new.segments
  cleaned_count =
      let changed = total-changed (λ s. clean_unit (new.state s))
      (λ s. clean_unit (old.state s)) old.segments segment h.inside (λ s low ne. ap clean_unit (h.states s low ne))
      in
      let none : clean_unit (old.state segment) ≡ 0 = ap clean_unit h.was_dirty in
      let one : clean_unit (new.state segment) ≡ 1 = ap clean_unit h.is_clean in
      let before : old.clean ≡ total (λ s. clean_unit (old.state s)) old.segments = log.segments.clean_count in
      let more = h.clean in
      let after : new.clean ≡ total (λ s. clean_unit (new.state s)) old.segments = omega arith in
      after ∙ ap (total (λ s. clean_unit (new.state s))) (sym h.keys.segments)

  cleaned_segments : AreSegments new
  cleaned_segments = record {
    inside = let inside = log.segments.inside in let segments = h.keys.segments in let active = h.end.active in
        omega arith;
    is_active = ap new.state h.end.active ∙ h.states old.active log.segments.inside (λ e. cleaned_other (sym e))
        ∙ log.segments.is_active;
    no_other = λ s low.
        let inside : s < old.segments = subst (λ n. s < n) h.keys.segments low in
        cleaned_state s inside (λ state. state ≡ Active → s ≡ new.active) (λ _ is. absurd (active_not_clean (sym is)))
        (λ _ is. log.segments.no_other s inside is ∙ sym h.end.active);
    from = let from = log.segments.from in let next = h.end.next in let active = h.end.active in omega arith;
    to = let to = log.segments.to in let next = h.end.next in let active = h.end.active in omega arith;
    clean_count = cleaned_count;
  }

  cleaned_place : (n c : ℕ) → IsPlaced new n c → IsPlace new n c (new.at n c)
  cleaned_place n c there =
      let was = had_place old new h.keys n c there in
      let place = log.keys n c was in
      let away : seg_of (old.at n c) ≢ segment = empty_has_none old spare segment log h.inside h.empty n c was in
      let low : seg_of (old.at n c) < old.segments = seg_below (old.at n c) old.segments place.in_volume in
      subst (IsPlace new n c) (sym (place_kept old new h.keys n c there)) (record {
        in_volume = subst (λ m. old.at n c < 256 * m) (sym h.keys.segments) place.in_volume;
        owned = h.owners (old.at n c) ∙ place.owned ∙ ap Some (owner_kept old new h.keys n c was.number_below);
        not_clean = cleaned_state (seg_of (old.at n c)) low (λ state. state ≢ Clean) (λ e. absurd (away e))
            (λ _. place.not_clean);
        written = λ is. subst (λ a. old.at n c < 4 * a) (sym h.end.next) (place.written (is ∙ h.end.active));
      })

  pub cleaned_log : IsLog new spare
  cleaned_log = record {
    segments = cleaned_segments;
    keys = cleaned_place;
    counted = λ s low. counted_kept old new h.keys spare s log h.live low;
    spared =
        let spared = log.spared in
        let live : new.live new.active ≡ old.live old.active = ap new.live h.end.active
        ∙ h.live old.active log.segments.inside in
        let next = h.end.next in
        let active = h.end.active in
        omega arith;
  }

-- Before anything is written the log holds.
module _ (l : LogState) (h : IsEmptyLog l) where
  ones : (s : ℕ) → s < l.segments → s ≢ 0 → clean_unit (l.state s) ≡ (let one : ℕ → ℕ = λ _. 1 in one s)
  ones s low ne = ap clean_unit (h.others s low ne)

  total-ones : (n : ℕ) → total (λ _. 1) n ≡ n
  unfolding total
  total-ones zero = refl
  total-ones (suc n) = let rest = total-ones n in omega arith

  empty_count : l.clean ≡ total (λ s. clean_unit (l.state s)) l.segments
  empty_count =
      let changed = total-changed (λ s. clean_unit (l.state s)) (λ _. 1) l.segments 0 h.some ones in
      let all = total-ones l.segments in
      let none : clean_unit (l.state 0) ≡ 0 = ap clean_unit h.is_active in
      let clean = h.clean in
      omega arith

  no_place : (n c : ℕ) → IsPlaced l n c → ⊥
  no_place n c there = there.somewhere (h.nowhere n c there.number_below there.code_below)

  pub empty_log : IsLog l 0
  empty_log = record {
    segments = record {
      inside = let some = h.some in let active = h.active in omega arith;
      is_active = ap l.state h.active ∙ h.is_active;
      no_other = λ s low is. elim (cases_eq s 0) [
        | inl e ↦ e ∙ sym h.active
        | inr ne ↦ absurd (active_not_clean (sym is ∙ h.others s low ne))
      ];
      from = let active = h.active in omega arith;
      to = let active = h.active in let next = h.next in omega arith;
      clean_count = empty_count;
    };
    keys = λ n c there. absurd (no_place n c there);
    counted = λ s low. h.live s low ∙ sym (live-none l.numbers BLOCK_CODES l.at s
        (λ n c less below some. absurd (some (h.nowhere n c less below))));
    spared = let live : l.live l.active ≡ 0 = ap l.live h.active ∙ h.live 0 h.some in omega arith;
  }

-- A search finds a clean segment exactly where some are counted.
unit_of : (state : SegState) → state ≢ Clean → clean_unit state ≡ 0
unit_of Clean h = absurd (h refl)
unit_of Dirty h = refl
unit_of Active h = refl

pub no_clean_total : (state : ℕ → SegState) (n : ℕ) → ((s : ℕ) → s < n → state s ≢ Clean)
    → total (λ s. clean_unit (state s)) n ≡ 0
no_clean_total state n h = total-zero (λ s. clean_unit (state s)) n (λ s low. unit_of (state s) (h s low))

-- The live bytes of a segment have room for what a key takes, and have what a key gives back.
pub taken_fits : (l : LogState) (spare number code place : ℕ) → IsLog l spare → MayTake l spare number code place
    → l.live l.active + 128 * units code ≤ 32768
taken_fits l spare number code place log may =
    let spared = log.spared in
    let enough = may.enough in
    let to = log.segments.to in
    omega arith

pub left_fits : (l : LogState) (spare number code : ℕ) → IsLog l spare → IsPlaced l number code
    → 128 * units code ≤ l.live (seg_of (l.at number code))
left_fits l spare number code log there =
    let inside = seg_below (l.at number code) l.segments (log.keys number code there).in_volume in
    let part = live-part l.numbers BLOCK_CODES l.at
    (seg_of (l.at number code)) number code there.number_below there.code_below in
    let weight = weight-here (l.at number code) (seg_of (l.at number code)) code there.somewhere refl in
    let counted = log.counted (seg_of (l.at number code)) inside in
    omega arith
