-- Where logs end, by the partial segments that were looked at so far (`ends_first`, `ends_more`): of all of them, that is
-- where the logs end (`ends_all`).
use Rattle.std.proofs.Common.{◌≡◌, ◌≢◌, ◌⊎◌, ℕ, ◌+◌, ◌-◌, ◌*◌, ◌/◌, ◌<◌, ◌≤◌, inl, inr, List, [], ◌∷◌, ◌++◌}
use Rattle.std.proofs.Common.{length, get_or, sym, ap, subst}
use Rattle.std.proofs.Common.{◌∙◌, ⊎_elim, arith}
use Rattle.std.specs.List.{Contains}
use Rattle.std.proofs.lemmas.Bool.{cases_eq, cases_lt}
use Rattle.std.proofs.lemmas.List.{get_or_append_left, get_or-append_right}
use Rattle.std.proofs.lemmas.List.Elements.{Contains-get_or}
use Rattle.lfs_segments.specs.Memory.{SegmentMemory}
use Rattle.lfs_recovery.specs.declared.places.PartialSegment.{PartialSegment}
use Rattle.lfs_recovery.specs.Logs.{AreLogs, IsLogged, log_place}
use Rattle.lfs_durable.proofs.ListLemmas.{listed_logged, logged_listed}
use Rattle.lfs_rescue.specs.Building.{EndsOne, IsLogEnd, IsZerosFrom}
use Rattle.lfs_rescue.proofs.BuildLemmas.{StandsWithin, stands_within}

-- each of the first ones ends before where its log does so far, and that is behind one, or where the log begins
pub record AreEnds (m : SegmentMemory) (ps : List PartialSegment) (n : ℕ) (ends : List ℕ) : Type 0 where
  pub long : length ends ≡ m.segments
  pub from : (s : ℕ) → s < m.segments → log_place s ≤ get_or ends s 0
  pub past : (k : ℕ) (d : PartialSegment) → k < n
      → (get_or ps k d).address + (get_or ps k d).count < get_or ends ((get_or ps k d).address / 64) 0
  pub one : (s : ℕ) → s < m.segments → (get_or ends s 0 ≡ log_place s) ⊎ EndsOne m s (get_or ends s 0)

pub ends_first : (m : SegmentMemory) (ps : List PartialSegment) (ends : List ℕ) → length ends ≡ m.segments
    → ((s : ℕ) → s < m.segments → get_or ends s 0 ≡ log_place s) → AreEnds m ps 0 ends
ends_first m ps ends long starts = record {
  long = long;
  from = λ s low. let start = starts s low in omega arith;
  past = λ k d below. absurd (omega arith);
  one = λ s low. inl (starts s low);
}

-- one more
pub ends_more : (m : SegmentMemory) (ps : List PartialSegment) (n : ℕ) (old new : List ℕ) (p : PartialSegment) (end : ℕ)
    → AreEnds m ps n old → ((d : PartialSegment) → get_or ps n d ≡ p) → IsLogged m p → p.address / 64 < m.segments
    → length new ≡ length old → get_or new (p.address / 64) 0 ≡ end
    → ((s : ℕ) → s ≢ p.address / 64 → get_or new s 0 ≡ get_or old s 0)
    → get_or old (p.address / 64) 0 ≤ end → p.address + p.count + 1 ≤ end
    → (end ≡ get_or old (p.address / 64) 0) ⊎ (end ≡ p.address + p.count + 1) → AreEnds m ps (n + 1) new
ends_more m ps n old new p end are at logged low long here others above behind is = record {
  long = long ∙ are.long;
  from = λ s inside. elim (cases_eq s (p.address / 64)) [
    | inl own ↦
        let from = are.from s inside in
        let was = ap (λ (k : ℕ). get_or old k 0) own in
        let now = ap (λ (k : ℕ). get_or new k 0) own in
        omega arith
    | inr other ↦ let from = are.from s inside in let same = others s other in omega arith
  ];
  past = λ k d below. elim (cases_lt k n) [
    | inl before ↦
        let past = are.past k d before in
        elim (cases_eq ((get_or ps k d).address / 64) (p.address / 64)) [
          | inl own ↦
              let was = ap (λ (j : ℕ). get_or old j 0) own in
              let now = ap (λ (j : ℕ). get_or new j 0) own in
              omega arith
          | inr other ↦ let same = others ((get_or ps k d).address / 64) other in omega arith
        ]
    | inr not_before ↦
        let last : k ≡ n = omega arith in
        let q : get_or ps k d ≡ p = ap (λ (j : ℕ). get_or ps j d) last ∙ at d in
        let start = ap (λ (s : PartialSegment). s.address) q in
        let count = ap (λ (s : PartialSegment). s.count) q in
        let now = ap (λ (s : PartialSegment). get_or new (s.address / 64) 0) q in
        omega arith
  ];
  one = λ s inside. elim (cases_eq s (p.address / 64)) [
    | inl own ↦
        let now : get_or new s 0 ≡ end = ap (λ (k : ℕ). get_or new k 0) own ∙ here in
        ⊎_elim
        (λ (was : end ≡ get_or old (p.address / 64) 0).
        let same : get_or new s 0 ≡ get_or old s 0 = now ∙ was ∙ ap (λ (k : ℕ). get_or old k 0) (sym own) in
        subst (λ (e : ℕ). (e ≡ log_place s) ⊎ EndsOne m s e) (sym same) (are.one s inside))
        (λ (own_end : end ≡ p.address + p.count + 1). inr (p, (logged, (sym own, now ∙ own_end))))
        is
    | inr other ↦
        subst (λ (e : ℕ). (e ≡ log_place s) ⊎ EndsOne m s e) (sym (others s other)) (are.one s inside)
  ];
}

pub ends_all : (m : SegmentMemory) (ps : List PartialSegment) (n : ℕ) (ends : List ℕ) → AreLogs m ps → AreEnds m ps n ends
    → length ps ≤ n → (s : ℕ) → s < m.segments → IsLogEnd m s (get_or ends s 0)
ends_all m ps n ends logs are all s low = record {
  from = are.from s low;
  past = λ p logged here.
      let there = logged_listed m ps p logs logged in
      let below = there.1 in
      let past = are.past there.0 p (omega arith) in
      let q : get_or ps there.0 p ≡ p = there.2 in
      let start = ap (λ (t : PartialSegment). t.address) q in
      let count = ap (λ (t : PartialSegment). t.count) q in
      let end = ap (λ (t : PartialSegment). get_or ends (t.address / 64) 0) q in
      let own = ap (λ (k : ℕ). get_or ends k 0) here in
      omega arith;
  one = are.one s low;
}

-- each of them stands in one segment of the volume
pub stands_at : (m : SegmentMemory) (ps : List PartialSegment) (k : ℕ) (d : PartialSegment) → AreLogs m ps → k < length ps
    → StandsWithin m (get_or ps k d)
stands_at m ps k d logs below =
    stands_within m (get_or ps k d) (listed_logged m ps (get_or ps k d) logs (Contains-get_or ps k d below))

-- one more segment
pub zeros_more : (m : SegmentMemory) (last : PartialSegment) (live from new : List ℕ) (n x : ℕ) → new ≡ from ++ x ∷ []
    → length from ≡ n → ((s : ℕ) → s < n → IsZerosFrom m last live s (get_or from s 0)) → IsZerosFrom m last live n x
    → (s : ℕ) → s < n + 1 → IsZerosFrom m last live s (get_or new s 0)
zeros_more m last live from new n x is long before here s low = elim (cases_lt s n) [
  | inl less ↦ subst (IsZerosFrom m last live s)
      (sym (ap (λ (xs : List ℕ). get_or xs s 0) is ∙ get_or_append_left from (x ∷ []) 0 s (omega arith))) (before s less)
  | inr not_less ↦
      let at : s ≡ n = omega arith in
      let none : s - n ≡ 0 = omega arith in
      let value : get_or new s 0 ≡ x =
      ap (λ (xs : List ℕ). get_or xs s 0) is
      ∙ get_or-append_right from (x ∷ []) n s 0 long (omega arith)
      ∙ ap (λ (k : ℕ). get_or (x ∷ []) k 0) none in
      subst (λ (k : ℕ). IsZerosFrom m last live k (get_or new s 0)) (sym at)
      (subst (IsZerosFrom m last live n) (sym value) here)
]
