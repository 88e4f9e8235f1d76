-- A key may take a place that was written, and live bytes may move with it: `MayTake-written` and `MayMoveLive-taken`,
-- for NotedLemmas of lfs_segwrite. The place lies in the active segment's log behind its label, so it is no address 0,
-- and the log names it for this key. What the key had before counts at its old segment, so as many bytes are there to
-- be taken off (`old_had`); at the new one they fit, as the spare bytes were counted for such (`taken_fits`).
use Rattle.std.proofs.Common.{◌≡◌, ◌≢◌, ℕ, ◌+◌, ◌*◌, ◌/◌, ◌<◌, ◌≤◌, zero, suc, inl, inr, Some, sym, ap, subst}
use Rattle.std.proofs.Common.{◌∙◌, arith}
use Rattle.std.proofs.lemmas.Bool.{cases_eq}
use Rattle.lfs_segments.specs.Log.{first_of}
use Rattle.lfs_segments.specs.Memory.{next_address}
use Rattle.lfs_bmap.specs.declared.blocks.TheConstants.{BLOCK_CODES}
use Rattle.lfs_bmap.specs.Counting.{seg_of, units}
use Rattle.lfs_bmap.specs.Log.{IsPlaced, IsLog, owner_of}
use Rattle.lfs_bmap.proofs.SegmentLemmas.{left_fits, taken_fits}
use Rattle.lfs_bmap.proofs.LogLemmas.{MayTake}
use Rattle.lfs_log.specs.Names.{named_at}
use Rattle.lfs_log.specs.Parts.{IsParts, LogParts, MayMoveLive, live_of, log_state}

-- A place that the log names for a key, in the active segment's log.
pub MayTake-written : (p : LogParts) (at : ℕ → ℕ → ℕ) (spare number code address slot : ℕ) → IsParts p
    → first_of p.memory.active ≤ address → address < next_address p.memory → slot < 4
    → number < (log_state p at).numbers → code < BLOCK_CODES → named_at p.memory (4 * address + slot)
    ≡ Some (owner_of (log_state p at) number code) → 128 * units code ≤ spare
    → MayTake (log_state p at) spare number code (4 * address + slot)
MayTake-written p at spare number code address slot h from below low number_below code_below named enough =
    let within = h.laid_out.within in
    record {
      number_below = number_below;
      code_below = code_below;
      somewhere = λ none. label_apart p.memory.active address from (omega arith);
      here = omega arith;
      written = omega arith;
      owned = named;
      enough = enough;
    }
  where
    label_apart : (segment address : ℕ) → first_of segment ≤ address → address ≡ 0 → ⊥
    label_apart zero address from none = absurd (omega arith)
    label_apart (suc segment) address from none = absurd (omega arith)

-- what the old address of a key has
module _ (p : LogParts) (at : ℕ → ℕ → ℕ) (spare number code from : ℕ) (log : IsLog (log_state p at) spare)
    (number_below : number < (log_state p at).numbers) (code_below : code < BLOCK_CODES)
    (was : at number code / 4 ≡ from) where
  has_place : from ≢ 0 → IsPlaced (log_state p at) number code
  has_place some = record {
    number_below = number_below;
    code_below = code_below;
    somewhere = λ none. some (sym was ∙ ap (λ (n : ℕ). n / 4) none);
  }

  old_inside : from < 64 * p.memory.segments
  old_inside = elim (cases_eq from 0) [
    | inl none ↦ let some = log.segments.inside in omega arith
    | inr some ↦ let inside = (log.keys number code (has_place some)).in_volume in omega arith
  ]

  old_had : from ≢ 0 → 128 * units code ≤ live_of p.tables (from / 64)
  old_had some =
      let segment : seg_of (at number code) ≡ from / 64 = omega arith in
      subst (λ (s : ℕ). 128 * units code ≤ live_of p.tables s) segment
      (left_fits (log_state p at) spare number code log (has_place some))

  -- a key that takes another
  pub MayMoveLive-taken : (place to : ℕ) → MayTake (log_state p at) spare number code place → place / 4 ≡ to
      → MayMoveLive p code from to
  MayMoveLive-taken place to may is =
      let here = may.here in
      let active : to / 64 ≡ p.memory.active = omega arith in
      record {
        from_inside = old_inside;
        to_inside = let inside = log.segments.inside in omega arith;
        had = old_had;
        fits = λ some. subst (λ (s : ℕ). live_of p.tables s + 128 * units code ≤ 32768) (sym active)
            (taken_fits (log_state p at) spare number code place log may);
      }
