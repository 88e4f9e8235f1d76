-- A store may stand on a log that is built again from what a crash left (`finds_store`). Its files and its end have no
-- fault; no key lies in a clean segment, as that has no live bytes (`dirty`); and what lies in its active segment has room
-- there (`fits`).
use Rattle.std.proofs.Common.{ℕ, ◌+◌, ◌-◌, ◌*◌, ◌<◌, ◌≤◌, inl, inr, length, refl, sym, ap, ◌∙◌, arith}
use Rattle.std.proofs.lemmas.Bool.{cases_eq}
use Rattle.lfs_types.specs.declared.limits.TheConstants.{SEGMENT_BLOCKS}
use Rattle.lfs_segments.specs.Memory.{SegmentMemory, next_address}
use Rattle.lfs_bmap.specs.declared.blocks.TheConstants.{BLOCK_CODES}
use Rattle.lfs_bmap.specs.Counting.{weight_of}
use Rattle.lfs_bmap.proofs.CountingLemmas.{live-empty}
use Rattle.lfs_bmap.proofs.LogLemmas.{active_not_clean}
use Rattle.lfs_log.specs.Parts.{LogParts, live_of, state_of}
use Rattle.lfs_parts.specs.declared.parts.Parts.{Parts}
use Rattle.lfs_fsck.specs.Checks.{IsCounted, IsLive}
use Rattle.lfs_fsck.specs.Stored.{keys_of}
use Rattle.lfs_fsck.proofs.StoreLemmas.{is_stored}
use Rattle.lfs_fsck.proofs.SumLemmas.{total-first}
use Rattle.lfs_rescue.specs.Rebuilt.{FindsStore}
use Rattle.lfs_rescue.specs.Recovering.{AreGivenBack}
use Rattle.lfs_rescue.proofs.DraftLemmas.{files, goes_on_there}
use Rattle.lfs_rescue.proofs.FitLemmas.{AreBelow, has_room, live_fits}
use Rattle.lfs_rescue.proofs.KeyLemmas.{HasNoneInClean, good_key}
use Rattle.lfs_rescue.proofs.SameLemmas.{IsAgain, same_numbers}
use Rattle.lfs_log.specs.Parts.{IsParts}

-- where clean segments have no live bytes, and the counts are those of the keys, no key lies in a clean segment
pub none_in_clean : (l : LogParts) → IsParts l → AreGivenBack l
    → ((s : ℕ) → s < l.memory.segments → IsLive l s) → HasNoneInClean l
none_in_clean l parts given_back live number code segment low below inside some here clean =
    elim (cases_eq segment l.memory.active) [
      | inl active ↦ active_not_clean (sym parts.is_active ∙ ap (state_of l.tables) (sym active) ∙ clean)
      | inr other ↦
          let none = (given_back segment inside other).0 clean in
          live-empty (keys_of l).numbers BLOCK_CODES (keys_of l).at segment (sym (live segment inside) ∙ none) number code
          low below some here
    ]

module _ (p : Parts) (m : SegmentMemory) (l : LogParts) (g : IsAgain p m l)
    (live : (s : ℕ) → s < l.memory.segments → IsLive l s) where
  dirty : HasNoneInClean l
  dirty = none_in_clean l g.draft.parts g.draft.recovered.given_back live

  -- ---- keys
  counted : IsCounted l (length l.tables.rows) 0 l.tables.live
  counted = record {
    earlier = λ n c low below. let numbers = same_numbers p m l g in good_key p m l g dirty n c (omega arith) below;
    here = λ c low. absurd (omega arith);
    long = g.draft.parts.agree;
    sums = λ s low.
        let is = live s low in
        let none = total-first (λ c. weight_of ((keys_of l).at (length l.tables.rows) c) s c) in
        omega arith;
  }

  -- ---- room
  all_below : AreBelow (keys_of l) l.memory.active (4 * (l.memory.active * 64 + l.memory.fill)) (keys_of l).at
  all_below = record {
    each = λ n c low below some here.
        let numbers = same_numbers p m l g in
        let key = good_key p m l g dirty n c (omega arith) below some in
        (key.place.written here, key.place.owned);
  }

  fits : live_of l.tables l.memory.active ≤ 512 * (next_address l.memory - SEGMENT_BLOCKS * l.memory.active)
  fits =
      let bytes = live l.memory.active g.draft.parts.laid_out.active in
      let few = live_fits (keys_of l) l.memory.active l.memory.fill (4 * (l.memory.active * 64 + l.memory.fill))
      (keys_of l).at refl (has_room l.memory) all_below in
      omega arith

pub finds_store : FindsStore
finds_store p m l durable shown crash rebuilt =
    let g : IsAgain p m l = record { durable = durable; shown = shown; crash = crash; draft = rebuilt.draft } in
    is_stored l l.tables.live rebuilt.draft.parts (goes_on_there p m l g (dirty p m l g rebuilt.live))
    (counted p m l g rebuilt.live) (files p m l g (dirty p m l g rebuilt.live)) rebuilt.live
    (fits p m l g rebuilt.live)
