-- `IsLog` holds still when blocks are written, when a key takes or loses a place and when a number is renewed
-- (`written_log`, `taken_log`, `left_log`, `renewed_log`, for `lfs_parts`, `lfs_staging` and `lfs_segwrite`). Keys are two sorts,
-- the one that was placed and all others (`placed-cases`), and the sums move by what the key weighs; `spared` pays for
-- it: blocks are written first, which makes bytes spare, and keys then use them up. A key that took more than `MayTake`
-- has spare would break `spared`, by which no segment's live bytes run over.
use Rattle.std.proofs.Common.{◌≡◌, ◌≢◌, ℕ, ◌+◌, ◌-◌, ◌*◌, ◌<◌, ◌≤◌, inl, inr, Some, sym, ap, ◌∙◌, subst, arith}
use Rattle.lfs_ifile.specs.declared.segment.SegState.TheVariants.{Clean, Dirty, Active}
use Rattle.lfs_bmap.specs.declared.blocks.TheConstants.{BLOCK_CODES}
use Rattle.lfs_bmap.specs.Counting.{seg_of, units, total, weight_of, live_bytes, placed}
use Rattle.lfs_bmap.specs.Log.{LogState, owner_of, IsPlaced, IsPlace, clean_unit, AreSegments, IsLog, SameKeys}
use Rattle.lfs_bmap.specs.Log.{SameUse, Writes, Assigns, Renews}
use Rattle.lfs_bmap.proofs.CountingLemmas.{total-same, weight-none, weight-here, placed-cases, live-same, live-placed}

-- a key may take a place: the log names it there, in the active segment before its end, and bytes are spare
pub record MayTake (l : LogState) (spare number code place : ℕ) : Type 0 where
  pub number_below : number < l.numbers
  pub code_below : code < BLOCK_CODES
  pub somewhere : place ≢ 0
  pub here : seg_of place ≡ l.active
  pub written : place < 4 * l.next
  pub owned : l.owner place ≡ Some (owner_of l number code)
  pub enough : 128 * units code ≤ spare

-- the states of segments differ
pub active_not_clean : Active ≡ Clean → ⊥
active_not_clean e = cc

pub dirty_not_clean : Dirty ≡ Clean → ⊥
dirty_not_clean e = cc

pub dirty_not_active : Dirty ≡ Active → ⊥
dirty_not_active e = cc

-- the segment of a place in the volume
pub seg_below : (place segments : ℕ) → place < 256 * segments → seg_of place < segments
seg_below place segments h = omega arith

below_from_seg : (place segments : ℕ) → seg_of place < segments → place < 256 * segments
below_from_seg place segments h = omega arith

-- What two logs with the same keys share.
module _ (old new : LogState) (keys : SameKeys old new) where
  pub had_place : (n c : ℕ) → IsPlaced new n c → IsPlaced old n c
  had_place n c h =
      let low : n < old.numbers = subst (λ m. n < m) keys.numbers h.number_below in
      record {
        number_below = low;
        code_below = h.code_below;
        somewhere = λ none. h.somewhere (keys.places n c low h.code_below ∙ none);
      }

  pub place_kept : (n c : ℕ) → IsPlaced new n c → new.at n c ≡ old.at n c
  place_kept n c h = keys.places n c (had_place n c h).number_below h.code_below

  pub owner_kept : (n c : ℕ) → n < old.numbers → owner_of old n c ≡ owner_of new n c
  owner_kept n c low = ap (λ v. record { number = n; version = v; code = c }) (sym (keys.versions n low))

  pub counted_kept : (spare s : ℕ) → IsLog old spare → ((r : ℕ) → r < old.segments → new.live r ≡ old.live r)
      → s < new.segments
      → new.live s ≡ live_bytes new.numbers BLOCK_CODES new.at s
  counted_kept spare s log live low =
      let inside : s < old.segments = subst (λ n. s < n) keys.segments low in
      live s inside ∙ log.counted s inside
      ∙ live-same old.numbers BLOCK_CODES old.at new.at s (λ n c less under. sym (keys.places n c less under))
      ∙ ap (λ m. live_bytes m BLOCK_CODES new.at s) (sym keys.numbers)

-- Where the use and the end of the segments stay.
module _ (old new : LogState) (segments : new.segments ≡ old.segments) (used : SameUse old new) (active : new.active
    ≡ old.active) where
  segments_kept : (to_next : 64 * old.active ≤ new.next) (under : new.next ≤ 64 * old.active + 64) → AreSegments old
      → AreSegments new
  segments_kept to_next under h = record {
    inside = let low = h.inside in omega arith;
    is_active = ap new.state active ∙ used.states old.active h.inside ∙ h.is_active;
    no_other = λ s low is. let inside : s < old.segments = subst (λ n. s < n) segments low in
        h.no_other s inside (sym (used.states s inside) ∙ is) ∙ sym active;
    from = omega arith;
    to = omega arith;
    clean_count = used.clean ∙ h.clean_count
        ∙ total-same _ _ old.segments (λ s low. ap clean_unit (sym (used.states s low)))
        ∙ ap (total (λ s. clean_unit (new.state s))) (sym segments);
  }

-- Writing blocks at the end keeps the log, and makes bytes spare.
pub written_log : (old new : LogState) (spare blocks : ℕ) → IsLog old spare → Writes old new blocks
    → IsLog new (spare + 512 * blocks)
written_log old new spare blocks log h = record {
  segments = let from = log.segments.from in
      segments_kept old new h.keys.segments h.used h.active (let next = h.next in omega arith)
      (let next = h.next in let room = h.room in omega arith) log.segments;
  keys = λ n c there.
      let was = had_place old new h.keys n c there in
      let place = log.keys n c was in
      let same : new.at n c ≡ old.at n c = place_kept old new h.keys n c there in
      subst (IsPlace new n c) (sym same) (record {
        in_volume = subst (λ m. old.at n c < 256 * m) (sym h.keys.segments) place.in_volume;
        owned = h.owners (old.at n c) place.written ∙ place.owned
            ∙ ap Some (owner_kept old new h.keys n c was.number_below);
        not_clean = λ is. place.not_clean (sym (h.used.states (seg_of (old.at n c))
            (seg_below (old.at n c) old.segments place.in_volume)) ∙ is);
        written = λ is. let low : old.at n c < 4 * old.next = place.written (is ∙ h.active) in let next = h.next in
            omega arith;
      });
  counted = λ s low. counted_kept old new h.keys spare s log h.live low;
  spared =
      let spared = log.spared in
      let from = log.segments.from in
      let live : new.live new.active ≡ old.live old.active = ap new.live h.active
      ∙ h.live old.active log.segments.inside in
      let next = h.next in
      let active = h.active in
      omega arith;
}

-- What holds where one key's place was changed.
module _ (old new : LogState) (spare number code place : ℕ) (log : IsLog old spare) (low : number < old.numbers)
    (below : code < BLOCK_CODES) (h : Assigns old new number code place) where
  placed_segments : AreSegments new
  placed_segments =
      segments_kept old new h.segments h.used h.end.active
      (let next = h.end.next in let from = log.segments.from in omega arith)
      (let next = h.end.next in let to = log.segments.to in omega arith) log.segments

  placed_counted : (s : ℕ) → s < new.segments → new.live s ≡ live_bytes new.numbers BLOCK_CODES new.at s
  placed_counted s inside_new =
      let inside : s < old.segments = subst (λ n. s < n) h.segments inside_new in
      let before : old.live s ≡ live_bytes old.numbers BLOCK_CODES old.at s = log.counted s inside in
      let kept : new.live s + weight_of (old.at number code) s code ≡ old.live s
      + weight_of place s code = h.live s inside in
      let moved : live_bytes old.numbers BLOCK_CODES (placed old.at number code place) s
      + weight_of (old.at number code) s code
      ≡ live_bytes old.numbers BLOCK_CODES old.at s
      + weight_of place s code = live-placed old.numbers BLOCK_CODES old.at number code place s low below in
      let now : new.live s ≡ live_bytes old.numbers BLOCK_CODES (placed old.at number code place) s = omega arith in
      now ∙ live-same old.numbers BLOCK_CODES (placed old.at number code place) new.at s
      (λ n c less under. sym (h.places n c less under))
      ∙ ap (λ m. live_bytes m BLOCK_CODES new.at s) (sym h.numbers)

  -- another key has a place as before
  placed_other : (n c : ℕ) → IsPlaced new n c → new.at n c ≡ old.at n c → IsPlace new n c (new.at n c)
  placed_other n c there same =
      let less : n < old.numbers = subst (λ m. n < m) h.numbers there.number_below in
      let was : IsPlaced old n c = record {
        number_below = less;
        code_below = there.code_below;
        somewhere = λ none. there.somewhere (same ∙ none);
      } in
      let p = log.keys n c was in
      subst (IsPlace new n c) (sym same) (record {
        in_volume = subst (λ m. old.at n c < 256 * m) (sym h.segments) p.in_volume;
        owned = h.owners (old.at n c) ∙ p.owned ∙ ap (λ v. Some (record { number = n; version = v; code = c }))
            (sym (h.versions n less));
        not_clean = λ is. p.not_clean (sym (h.used.states (seg_of (old.at n c))
            (seg_below (old.at n c) old.segments p.in_volume)) ∙ is);
        written = λ is. subst (λ a. old.at n c < 4 * a) (sym h.end.next) (p.written (is ∙ h.end.active));
      })

  live_there : new.live new.active + weight_of (old.at number code) old.active code ≡ old.live old.active
      + weight_of place old.active code
  live_there = ap (λ s. new.live s + weight_of (old.at number code) old.active code) h.end.active
      ∙ h.live old.active log.segments.inside

-- A key that takes a place which the log names for it keeps the log, and uses spare bytes up.
pub taken_log : (old new : LogState) (spare number code place : ℕ) → IsLog old spare
    → MayTake old spare number code place → Assigns old new number code place
    → IsLog new (spare - 128 * units code)
taken_log old new spare number code place log may h = record {
  segments = placed_segments old new spare number code place log may.number_below may.code_below h;
  keys = λ n c there.
      let less : n < old.numbers = subst (λ m. n < m) h.numbers there.number_below in
      elim (placed-cases old.at number code place n c) [
        | inl e ↦
            let is : new.at n c ≡ place = h.places n c less there.code_below ∙ e.2 in
            let inside : seg_of place < old.segments =
            subst (λ s. s < old.segments) (sym may.here) log.segments.inside in
            let same_owner : owner_of old number code ≡ owner_of new n c =
            ap (λ m. record { number = m; version = old.version m; code = code }) (sym e.0)
            ∙ ap (λ d. record { number = n; version = old.version n; code = d }) (sym e.1)
            ∙ ap (λ v. record { number = n; version = v; code = c }) (sym (h.versions n less)) in
            subst (IsPlace new n c) (sym is) (record {
              in_volume = subst (λ m. place < 256 * m) (sym h.segments) (below_from_seg place old.segments inside);
              owned = h.owners place ∙ may.owned ∙ ap Some same_owner;
              not_clean = λ clean. active_not_clean (sym log.segments.is_active ∙ ap old.state (sym may.here)
                  ∙ sym (h.used.states (seg_of place) inside) ∙ clean);
              written = λ _. subst (λ a. place < 4 * a) (sym h.end.next) may.written;
            })
        | inr e ↦
            placed_other old new spare number code place log may.number_below may.code_below h n c there
            (h.places n c less there.code_below ∙ e.1)
      ];
  counted = placed_counted old new spare number code place log may.number_below may.code_below h;
  spared =
      let there = live_there old new spare number code place log may.number_below may.code_below h in
      let weight = weight-here place old.active code may.somewhere may.here in
      let spared = log.spared in
      let enough = may.enough in
      let next = h.end.next in
      let active = h.end.active in
      omega arith;
}

-- A key that loses its place keeps the log.
pub left_log : (old new : LogState) (spare number code : ℕ) → IsLog old spare → number < old.numbers
    → code < BLOCK_CODES → Assigns old new number code 0
    → IsLog new spare
left_log old new spare number code log low below h = record {
  segments = placed_segments old new spare number code 0 log low below h;
  keys = λ n c there.
      let less : n < old.numbers = subst (λ m. n < m) h.numbers there.number_below in
      elim (placed-cases old.at number code 0 n c) [
        | inl e ↦ absurd (there.somewhere (h.places n c less there.code_below ∙ e.2))
        | inr e ↦ placed_other old new spare number code 0 log low below h n c there (h.places n c less there.code_below
            ∙ e.1)
      ];
  counted = placed_counted old new spare number code 0 log low below h;
  spared =
      let there = live_there old new spare number code 0 log low below h in
      let weight = weight-none old.active code in
      let spared = log.spared in
      let next = h.end.next in
      let active = h.end.active in
      omega arith;
}

-- Giving a number out, or releasing it, keeps the log.
pub renewed_log : (old new : LogState) (spare number : ℕ) → IsLog old spare → Renews old new number → IsLog new spare
renewed_log old new spare number log h = record {
  segments =
      segments_kept old new h.segments h.used h.end.active
      (let next = h.end.next in let from = log.segments.from in omega arith)
      (let next = h.end.next in let to = log.segments.to in omega arith) log.segments;
  keys = λ n c there.
      let less : n < old.numbers = subst (λ m. n < m) h.numbers there.number_below in
      let same : new.at n c ≡ old.at n c = h.places n c less there.code_below in
      let was : IsPlaced old n c = record {
        number_below = less;
        code_below = there.code_below;
        somewhere = λ none. there.somewhere (same ∙ none);
      } in
      let other : n ≢ number = λ e. was.somewhere (ap (λ m. old.at m c) e ∙ h.nowhere c there.code_below) in
      let p = log.keys n c was in
      subst (IsPlace new n c) (sym same) (record {
        in_volume = subst (λ m. old.at n c < 256 * m) (sym h.segments) p.in_volume;
        owned = h.owners (old.at n c) ∙ p.owned ∙ ap (λ v. Some (record { number = n; version = v; code = c }))
            (sym (h.versions n less other));
        not_clean = λ is. p.not_clean (sym (h.used.states (seg_of (old.at n c))
            (seg_below (old.at n c) old.segments p.in_volume)) ∙ is);
        written = λ is. subst (λ a. old.at n c < 4 * a) (sym h.end.next) (p.written (is ∙ h.end.active));
      });
  counted = λ s low.
      let inside : s < old.segments = subst (λ n. s < n) h.segments low in
      h.live s inside ∙ log.counted s inside
      ∙ live-same old.numbers BLOCK_CODES old.at new.at s (λ n c less under. sym (h.places n c less under))
      ∙ ap (λ m. live_bytes m BLOCK_CODES new.at s) (sym h.numbers);
  spared =
      let spared = log.spared in
      let live : new.live new.active ≡ old.live old.active = ap new.live h.end.active
      ∙ h.live old.active log.segments.inside in
      let next = h.end.next in
      let active = h.end.active in
      omega arith;
}
