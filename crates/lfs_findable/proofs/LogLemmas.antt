-- Where no summary stands but those of the partial segments that recovery finds (`AreListed`), all summaries of a log
-- are theirs: from where the log begins on, each is behind the one before, and behind the last one there is none
-- (`listed_from`). So serials rise where theirs do, along a log anyhow (`listed_rises`), and what holds of whole
-- partial segments holds of all that were begun: `findable`. The other way round recovery finds all that was begun:
-- `listed_all` and `ordered_all`.
use Rattle.std.proofs.Common.{◌≡◌, ℕ, zero, suc, ◌+◌, ◌*◌, ◌/◌, ◌<◌, ◌≤◌, ◌⊎◌, inl, inr, true, List, [], ◌∷◌}
use Rattle.std.proofs.Common.{Option, Some, None, get_or, length, refl, sym, ap, subst, ◌∙◌, ⊎_elim, arith}
use Rattle.std.specs.List.{All, Contains}
use Rattle.std.proofs.lemmas.Bool.{cases_lt}
use Rattle.std.proofs.lemmas.List.Elements.{All-contains, Contains-append_cases}
use Rattle.std.proofs.lemmas.List.Elements.{Contains-get_or, Contains-push_cases}
use Rattle.std.proofs.lemmas.Option.{none-some, same_Some}
use Rattle.lfs_segments.specs.Log.{expected_at, first_of}
use Rattle.lfs_segments.specs.Memory.{IsLaidOut, SegmentMemory, block_at, has_serials}
use Rattle.lfs_segments.specs.Rising.{IsSummaryAt}
use Rattle.lfs_segments.specs.Serial.{Told, told_in}
use Rattle.lfs_segments.proofs.LogLemmas.{expected_at-first}
use Rattle.lfs_recovery.specs.declared.places.PartialSegment.{PartialSegment}
use Rattle.lfs_recovery.specs.Course.{partial_of}
use Rattle.lfs_recovery.specs.Logs.{AreLogs, IsChain, log_place}
use Rattle.lfs_recovery.specs.Whole.{IsWhole, ends_in_inodes}
use Rattle.lfs_recovery.proofs.LogLemmas.{log_start-few, longest_one, whole_inside}
use Rattle.lfs_found.specs.Found.{IsBegun}
use Rattle.lfs_found.specs.Written.{IsFindable}
use Rattle.lfs_found.proofs.ChainLemmas.{expected-next, finds_all, finds_begun, none_past, none_within, summary_at}
use Rattle.lfs_found.proofs.ChainLemmas.{told_some}
use Rattle.lfs_durable.proofs.ListLemmas.{listed_logged, logged_listed}
use Rattle.lfs_findable.specs.Judging.{AreListed, AreOrdered, BeginsAt, IsNoOther, IsProper, place_behind}

-- the log in which a partial segment stands
log_of : (m : SegmentMemory) (ps : List PartialSegment) (p : PartialSegment) (a : AreLogs m ps) → Contains ps p
    → (segment : ℕ) × ((segment < m.segments) × Contains (a.logs segment) p)
log_of m ps p a there =
    let l = listed_logged m ps p a there in
    let same : l.log ≡ a.logs l.segment =
    longest_one m l.segment (log_place l.segment) 0 l.log (a.logs l.segment) l.is (a.each l.segment l.below) in
    (l.segment, (l.below, subst (λ (xs : List PartialSegment). Contains xs p) same l.there))

-- ---- along a chain

first_or_rest : (q : PartialSegment) (ps : List PartialSegment) (p : PartialSegment) → Contains (q ∷ ps) p
    → (q ≡ p) ⊎ Contains ps p
first_or_rest q ps p there = ⊎_elim
    (λ (first : Contains (q ∷ []) p). ⊎_elim
    (λ (none : Contains [] p). let below = none.1 in absurd (omega arith))
    (λ (is : q ≡ p). inl is)
    (Contains-push_cases [] q p first))
    (λ (rest : Contains ps p). inr rest)
    (Contains-append_cases (q ∷ []) ps p there)

-- a partial segment stands behind where its chain begins, in the segment, with a serial above
record StandsIn (segment address above : ℕ) (p : PartialSegment) : Type 0 where
  low : address ≤ p.address
  high : p.address + p.count < (segment + 1) * 64
  rises : above < p.serial

chain_stands : (m : SegmentMemory) (segment address above : ℕ) (ps : List PartialSegment) (p : PartialSegment)
    → IsChain m segment address above ps → Contains ps p → StandsIn segment address above p
chain_stands m segment address above [] p chain there = let none = there.1 in absurd (omega arith)
chain_stands m segment address above (q ∷ ps) p chain there =
    let link = chain.0 in
    let place = link.place in
    let inside = link.inside in
    let rises = link.rises in
    ⊎_elim
    (λ (first : q ≡ p). subst (StandsIn segment address above) first
    (record { low = omega arith; high = inside; rises = rises }))
    (λ (rest : Contains ps p).
    let is = chain_stands m segment (q.address + 1 + q.count) q.serial ps p chain.1 rest in
    let low = is.low in
    let high = is.high in
    let more = is.rises in
    record { low = omega arith; high = high; rises = omega arith })
    (first_or_rest q ps p there)

chain_rises : (m : SegmentMemory) (segment address above : ℕ) (ps : List PartialSegment) (p q : PartialSegment)
    → IsChain m segment address above ps → Contains ps p → Contains ps q → p.address < q.address → p.serial < q.serial
chain_rises m segment address above [] p q chain there here less = let none = there.1 in absurd (omega arith)
chain_rises m segment address above (r ∷ ps) p q chain there here less =
    let next : ℕ = r.address + 1 + r.count in
    ⊎_elim
    (λ (first : r ≡ p). ⊎_elim
    (λ (both : r ≡ q). let same = ap (λ (s : PartialSegment). s.address) (sym first ∙ both) in absurd (omega arith))
    (λ (rest : Contains ps q).
    let is = chain_stands m segment next r.serial ps q chain.1 rest in
    let more = is.rises in
    let same = ap (λ (s : PartialSegment). s.serial) first in
    omega arith)
    (first_or_rest r ps q here))
    (λ (rest : Contains ps p). ⊎_elim
    (λ (first : r ≡ q).
    let is = chain_stands m segment next r.serial ps p chain.1 rest in
    let low = is.low in
    let same = ap (λ (s : PartialSegment). s.address) first in
    absurd (omega arith))
    (λ (too : Contains ps q). chain_rises m segment next r.serial ps p q chain.1 rest too less)
    (first_or_rest r ps q here))
    (first_or_rest r ps p there)

-- of two in one segment the one behind the other has the higher serial
listed_rises : (m : SegmentMemory) (ps : List PartialSegment) (p q : PartialSegment) → AreLogs m ps → Contains ps p
    → Contains ps q → p.address / 64 ≡ q.address / 64 → p.address < q.address → p.serial < q.serial
listed_rises m ps p q a there here same less =
    let w = log_of m ps p a there in
    let v = log_of m ps q a here in
    let s : ℕ = w.0 in
    let r : ℕ = v.0 in
    let chain = (a.each s w.1.0).chain in
    let first = chain_stands m s (log_place s) 0 (a.logs s) p chain w.1.1 in
    let second = chain_stands m r (log_place r) 0 (a.logs r) q (a.each r v.1.0).chain v.1.1 in
    let low = first.low in
    let high = first.high in
    let low_too = second.low in
    let high_too = second.high in
    let in_one : p.address / 64 ≡ s = omega arith in
    let in_other : q.address / 64 ≡ r = omega arith in
    let one : r ≡ s = sym in_other ∙ sym same ∙ in_one in
    chain_rises m s (log_place s) 0 (a.logs s) p q chain w.1.1 (subst (λ (k : ℕ). Contains (a.logs k) q) one v.1.1) less

-- what recovery finds stands in the volume, with a serial
pub are_proper : (m : SegmentMemory) (ps : List PartialSegment) → has_serials m ≡ true → AreLogs m ps
    → All (IsWhole m) ps → All (IsProper m) ps
are_proper m ps kind logs whole = λ k d below.
    let p : PartialSegment = get_or ps k d in
    let b = finds_begun m p kind (listed_logged m ps p logs (Contains-get_or ps k d below)) in
    let address = b.summary.inside in
    let inside = whole_inside m (p.address / 64) p (whole k d below) (omega arith) (omega arith) in
    let some = told_some (block_at m p.address) b.told b.summary.told in
    let serial = b.serial in
    record { inside = omega arith; counted = omega arith }

-- ---- all summaries are theirs

module _ (m : SegmentMemory) (ps : List PartialSegment) (kind : has_serials m ≡ true) (logs : AreLogs m ps)
    (whole : All (IsWhole m) ps) (listed : AreListed m ps) where
  whole_there : (p : PartialSegment) → Contains ps p → IsWhole m p
  whole_there p there = All-contains (IsWhole m) ps p whole there

  -- what begins where a summary stands is what the summary tells
  same_there : (p : PartialSegment) (a : ℕ) (t : Told) → Contains ps p → p.address ≡ a → told_in (block_at m a) ≡ Some t
      → p ≡ partial_of a t
  same_there p a t there at told =
      let w = whole_there p there in
      let is : w.told ≡ t = same_Some w.told t
      (sym w.spelled ∙ ap (λ (b : ℕ). told_in (block_at m b)) at ∙ told) in
      let serial : p.serial ≡ t.serial = sym w.serial ∙ ap (λ (u : Told). u.serial) is in
      let count : p.count ≡ length t.entries = sym w.count ∙ ap (λ (u : Told). length u.entries) is in
      λ i. record { serial = serial i; address = at i; count = count i }

  -- a summary of a log is one of theirs, where no other stands at a place before it at which the log expects one
  listed_from : (n segment b a : ℕ) (t : Told) → segment < m.segments → first_of segment ≤ b → b ≤ a → a < b + n
      → a / 64 ≡ segment → expected_at m segment b ≡ Some [] → IsNoOther m ps b → expected_at m segment a ≡ Some []
      → told_in (block_at m a) ≡ Some t → Contains ps (partial_of a t)
  listed_from zero segment b a t below from low high here e other ready told = absurd (omega arith)
  listed_from (suc n) segment b a t below from low high here e other ready told = ⊎_elim
      (λ (begins : BeginsAt ps b).
      let p = begins.0 in
      let there = begins.1.0 in
      let at = begins.1.1 in
      let w = whole_there p there in
      let u = w.told in
      let spelled : told_in (block_at m b) ≡ Some u = ap (λ (k : ℕ). told_in (block_at m k)) (sym at) ∙ w.spelled in
      let count = w.count in
      ⊎_elim
      (λ (less : b < a). ⊎_elim
      (λ (within : a < b + 1 + length u.entries).
      absurd (none_within m segment b a u kind from e spelled less within ready))
      (λ (past : b + 1 + length u.entries ≤ a).
      let next : place_behind p ≡ b + 1 + length u.entries = omega arith in
      let in_one : p.address / 64 ≡ segment = omega arith in
      let in_other : place_behind p / 64 ≡ segment = omega arith in
      listed_from n segment (place_behind p) a t below (omega arith) (omega arith) (omega arith) here
      (ap (expected_at m segment) next ∙ expected-next m segment b u kind from e spelled)
      (listed.next p there (in_other ∙ sym in_one)) ready told)
      (cases_lt a (b + 1 + length u.entries)))
      (λ (not_less : a ≤ b).
      let same : b ≡ a = omega arith in
      subst (Contains ps) (same_there p a t there (at ∙ same) told) there)
      (cases_lt b a))
      (λ (none : told_in (block_at m b) ≡ None). ⊎_elim
      (λ (less : b < a). absurd (none_past m segment b a kind from e none less ready))
      (λ (not_less : a ≤ b).
      let same : b ≡ a = omega arith in
      absurd (none-some t (sym none ∙ ap (λ (k : ℕ). told_in (block_at m k)) same ∙ told)))
      (cases_lt b a))
      other

  all_listed : (a : ℕ) (t : Told) → IsSummaryAt m a t → Contains ps (partial_of a t)
  all_listed a t s =
      let segment : ℕ = a / 64 in
      let inside = s.inside in
      let from = s.behind in
      let below : segment < m.segments = omega arith in
      listed_from (a + 1) segment (first_of segment) a t below (omega arith) from (omega arith) refl
      (expected_at-first m segment) (listed.first segment below) s.expects s.told

  -- what is known of a whole partial segment is known of each summary
  told_there : (a : ℕ) (t : Told) → IsSummaryAt m a t → (w : IsWhole m (partial_of a t)) × (w.told ≡ t)
  told_there a t s =
      let w = whole_there (partial_of a t) (all_listed a t s) in (w, same_Some w.told t (sym w.spelled ∙ s.told))

  pub findable : IsLaidOut m → (next : ℕ) → AreOrdered m.active next ps → IsFindable m next
  findable laid next o = record {
    laid_out = laid;
    kind = kind;
    rising = record {
      below = λ a t s. o.below (partial_of a t) (all_listed a t s);
      rises = λ a b t u s r same less. listed_rises m ps (partial_of a t) (partial_of b u) logs (all_listed a t s)
          (all_listed b u r) same less;
      active = λ a b t u s r other here. o.above (partial_of a t) (partial_of b u) (all_listed a t s) (all_listed b u r)
          other here;
      apart = λ a b t u s r same. o.apart (partial_of a t) (partial_of b u) (all_listed a t s) (all_listed b u r) same;
      segment = λ a t s. let w = told_there a t s in ap (λ (u : Told). u.segment) (sym w.1) ∙ w.0.segment;
      offset = λ a t s. let w = told_there a t s in ap (λ (u : Told). u.offset) (sym w.1) ∙ w.0.offset;
    };
    whole = record {
      last = λ a t s. let w = told_there a t s in ap (λ (u : Told). ends_in_inodes u.entries) (sym w.1) ∙ w.0.last;
      record_there = λ a t s. (told_there a t s).0.record_there;
    };
  }

-- ---- recovery finds all that was begun

module _ (m : SegmentMemory) (next : ℕ) (ps : List PartialSegment) (logs : AreLogs m ps) (f : IsFindable m next) where
  begun_there : (p : PartialSegment) → Contains ps p → IsBegun m p
  begun_there p there = finds_begun m p f.kind (listed_logged m ps p logs there)

  no_other : (segment a : ℕ) (o : Option Told) → segment < m.segments → first_of segment ≤ a → a < (segment + 1) * 64
      → expected_at m segment a ≡ Some [] → told_in (block_at m a) ≡ o → IsNoOther m ps a
  no_other segment a None below from high e is = inr is
  no_other segment a (Some t) below from high e is =
      let p : PartialSegment = partial_of a t in
      let b : IsBegun m p =
      record { told = t; summary = summary_at m segment a t below from high e is; serial = refl; count = refl } in
      inl (p, (logged_listed m ps p logs (finds_all m next p f.kind f.rising f.whole b), refl))

  pub listed_all : AreListed m ps
  listed_all = record {
    first = λ segment below.
        let few = log_start-few segment in
        no_other segment (first_of segment) (told_in (block_at m (first_of segment))) below (omega arith) (omega arith)
        (expected_at-first m segment) refl;
    next = λ p there same.
        let b = begun_there p there in
        let segment : ℕ = p.address / 64 in
        let inside = b.summary.inside in
        let from = b.summary.behind in
        let end : place_behind p ≡ p.address + 1 + length b.told.entries =
        ap (λ (n : ℕ). p.address + 1 + n) (sym b.count) in
        no_other segment (place_behind p) (told_in (block_at m (place_behind p))) (omega arith) (omega arith)
        (omega arith)
        (ap (expected_at m segment) end
        ∙ expected-next m segment p.address b.told f.kind from b.summary.expects b.summary.told) refl;
  }

  pub ordered_all : AreOrdered m.active next ps
  ordered_all = record {
    below = λ p there.
        let b = begun_there p there in
        let low = f.rising.below p.address b.told b.summary in
        let serial = b.serial in
        omega arith;
    above = λ p q there here other active.
        let b = begun_there p there in
        let c = begun_there q here in
        let less = f.rising.active p.address q.address b.told c.told b.summary c.summary other active in
        let serial = b.serial in
        let serial_too = c.serial in
        omega arith;
    apart = λ p q there here same.
        let b = begun_there p there in
        let c = begun_there q here in
        f.rising.apart p.address q.address b.told c.told b.summary c.summary (b.serial ∙ same ∙ sym c.serial);
  }
