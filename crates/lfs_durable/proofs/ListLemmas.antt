-- A list of the partial segments of all logs (`AreLogs`) has each that stands in one (`logged_listed`), and no other
-- (`listed_logged`).
use Rattle.std.proofs.Common.{◌≡◌, ℕ, zero, suc, ◌<◌, ◌≤◌, List, subst, sym, ⊎_elim, arith}
use Rattle.std.specs.List.{Contains}
use Rattle.std.proofs.lemmas.Bool.{cases_lt}
use Rattle.std.proofs.lemmas.List.Elements.{Contains-append_cases, Contains-append_left, Contains-append_right}
use Rattle.lfs_segments.specs.Memory.{SegmentMemory}
use Rattle.lfs_recovery.specs.declared.places.PartialSegment.{PartialSegment}
use Rattle.lfs_recovery.specs.Logs.{AreLogs, IsLogged, joined, log_place}
use Rattle.lfs_recovery.proofs.LogLemmas.{longest_one}

in_joined : (logs : ℕ → List PartialSegment) (n : ℕ) (p : PartialSegment) → Contains (joined logs n) p
    → (segment : ℕ) × ((segment < n) × Contains (logs segment) p)
in_joined logs zero p there = let below = there.1 in absurd (omega arith)
in_joined logs (suc n) p there = ⊎_elim
    (λ (before : Contains (joined logs n) p).
    let w = in_joined logs n p before in let below = w.1.0 in (w.0, (omega arith, w.1.1)))
    (λ (here : Contains (logs n) p). (n, (omega arith, here)))
    (Contains-append_cases (joined logs n) (logs n) p there)

joined_in : (logs : ℕ → List PartialSegment) (n segment : ℕ) (p : PartialSegment) → segment < n
    → Contains (logs segment) p → Contains (joined logs n) p
joined_in logs zero segment p below there = absurd (omega arith)
joined_in logs (suc n) segment p below there = ⊎_elim
    (λ (lt : segment < n). Contains-append_left (joined logs n) (logs n) p (joined_in logs n segment p lt there))
    (λ (ge : n ≤ segment). let at : segment ≡ n = omega arith in
    Contains-append_right (joined logs n) (logs n) p (subst (λ (k : ℕ). Contains (logs k) p) at there))
    (cases_lt segment n)

-- the log in which a partial segment stands
log_of : (m : SegmentMemory) (ps : List PartialSegment) (p : PartialSegment) (a : AreLogs m ps) → Contains ps p
    → (segment : ℕ) × ((segment < m.segments) × Contains (a.logs segment) p)
log_of m ps p a there =
    in_joined a.logs m.segments p (subst (λ (xs : List PartialSegment). Contains xs p) a.together there)

pub listed_logged : (m : SegmentMemory) (ps : List PartialSegment) (p : PartialSegment) → AreLogs m ps → Contains ps p
    → IsLogged m p
listed_logged m ps p a there =
    let w = log_of m ps p a there in
    record { segment = w.0; log = a.logs w.0; below = w.1.0; is = a.each w.0 w.1.0; there = w.1.1 }

pub logged_listed : (m : SegmentMemory) (ps : List PartialSegment) (p : PartialSegment) → AreLogs m ps → IsLogged m p
    → Contains ps p
logged_listed m ps p a l =
    let same : l.log ≡ a.logs l.segment =
    longest_one m l.segment (log_place l.segment) 0 l.log (a.logs l.segment) l.is (a.each l.segment l.below) in
    subst (λ (xs : List PartialSegment). Contains xs p) (sym a.together)
    (joined_in a.logs m.segments l.segment p l.below (subst (λ (xs : List PartialSegment). Contains xs p) same l.there))
