-- The chains of recovery are the summaries of the logs: `finds_begun`, `finds_all` and `finds_end`. A chain begins where
-- the log of a segment expects a summary, and behind the blocks of one the log expects the next (`expected-behind`), so
-- each link is one (`chain_begun`). The other way round a summary is a link where it is whole and its serial rises, and
-- between two links no summary is expected: so a longest chain leaves none out (`chain_all`).
use Rattle.std.proofs.Common.{◌≡◌, ◌≢◌, ℕ, ◌+◌, ◌-◌, ◌*◌, ◌/◌, ◌<◌, ◌≤◌, ◌⊎◌, inl, inr, true, List, [], ◌∷◌, Option, Some}
use Rattle.std.proofs.Common.{None, Bool, drop, length, option_map, refl, sym, ap, subst, ◌∙◌, ⊎_elim, arith}
use Rattle.std.specs.List.{Contains}
use Rattle.std.proofs.Math.Seq.{drop-length}
use Rattle.std.proofs.lemmas.Bool.{cases_eq, cases_lt}
use Rattle.std.proofs.lemmas.List.{length-drop}
use Rattle.std.proofs.lemmas.List.Elements.{Contains-append_cases, Contains-append_left, Contains-append_right}
use Rattle.std.proofs.lemmas.List.Elements.{Contains-push, Contains-push_cases}
use Rattle.std.proofs.lemmas.Option.{none-some, same_Some}
use Rattle.lfs_segments.specs.declared.entry.SummaryEntry.{SummaryEntry}
use Rattle.lfs_segments.specs.Log.{Expects, after_block, expected, expected_at, first_of, log_block}
use Rattle.lfs_segments.specs.Memory.{IsLaidOut, SegmentMemory, block_at, has_serials, next_address}
use Rattle.lfs_segments.specs.Rising.{IsRisingTo, IsSummaryAt}
use Rattle.lfs_segments.specs.Bytes.{word_at}
use Rattle.lfs_segments.specs.Reading.{summary_entries}
use Rattle.lfs_segments.specs.Serial.{Told, told_in, without_serial}
use Rattle.lfs_segments.proofs.LogLemmas.{expected-ended, expected-entries, expected_at-first, expected_at-more}
use Rattle.lfs_segments.proofs.RisingLemmas.{none_behind}
use Rattle.lfs_segments.proofs.SerialLemmas.{told_in-more, told_in-zero, told_of}
use Rattle.lfs_recovery.specs.declared.places.PartialSegment.{PartialSegment}
use Rattle.lfs_recovery.specs.Course.{end_of, partials}
use Rattle.lfs_recovery.specs.Logs.{IsChain, IsLink, IsLog, IsLogged, IsLongest}
use Rattle.lfs_recovery.specs.Whole.{IsWhole, has_record}
use Rattle.lfs_recovery.proofs.LogLemmas.{map_some, partials-logs, whole_inside}
use Rattle.lfs_found.specs.Found.{AreWhole, FindsAll, FindsBegun, FindsEnd, IsBegun}

-- ---- what a log expects behind a summary

-- the blocks of its entries, in turn
pub expected-behind : (m : SegmentMemory) (segment a j : ℕ) (t : Told) → has_serials m ≡ true → first_of segment ≤ a
    → expected_at m segment a ≡ Some [] → told_in (block_at m a) ≡ Some t → j ≤ length t.entries
    → expected_at m segment (a + 1 + j) ≡ Some (drop j t.entries)
expected-behind m segment a j t kind from e told within =
    let n : ℕ = a + 1 - first_of segment in
    let sum : a + 1 + j - first_of segment ≡ n + j = omega arith in
    let step : expected_at m segment (a + 1) ≡ Some t.entries =
    expected_at-more m segment a [] from e
    ∙ ap (λ (s : Bool). after_block s [] (block_at m a)) kind
    ∙ ap (option_map (λ (u : Told). u.entries)) told in
    ap (expected (has_serials m) (log_block m segment)) sum
    ∙ expected-entries (has_serials m) (log_block m segment) n j t.entries step within

-- then the next summary
pub expected-next : (m : SegmentMemory) (segment a : ℕ) (t : Told) → has_serials m ≡ true → first_of segment ≤ a
    → expected_at m segment a ≡ Some [] → told_in (block_at m a) ≡ Some t
    → expected_at m segment (a + 1 + length t.entries) ≡ Some []
expected-next m segment a t kind from e told =
    expected-behind m segment a (length t.entries) t kind from e told (omega arith) ∙ ap Some (drop-length t.entries)

-- among its blocks none is expected
pub none_within : (m : SegmentMemory) (segment a b : ℕ) (t : Told) → has_serials m ≡ true → first_of segment ≤ a
    → expected_at m segment a ≡ Some [] → told_in (block_at m a) ≡ Some t → a < b → b < a + 1 + length t.entries
    → expected_at m segment b ≡ Some [] → ⊥
none_within m segment a b t kind from e told low high here =
    let j : ℕ = b - (a + 1) in
    let at : b ≡ a + 1 + j = omega arith in
    let none : [] ≡ drop j t.entries = same_Some [] (drop j t.entries)
    (sym here ∙ ap (expected_at m segment) at ∙ expected-behind m segment a j t kind from e told (omega arith)) in
    let long : length (drop j t.entries) ≡ length t.entries - j = length-drop j t.entries in
    let empty : length (drop j t.entries) ≡ 0 = ap (λ (es : List SummaryEntry). length es) (sym none) in
    absurd (omega arith)

-- where a block is no summary, the log has ended
pub none_past : (m : SegmentMemory) (segment a b : ℕ) → has_serials m ≡ true → first_of segment ≤ a
    → expected_at m segment a ≡ Some [] → told_in (block_at m a) ≡ None → a < b → expected_at m segment b ≡ Some []
    → ⊥
none_past m segment a b kind from e told low here =
    let n : ℕ = a + 1 - first_of segment in
    let sum : b - first_of segment ≡ n + (b - (a + 1)) = omega arith in
    let step : expected_at m segment (a + 1) ≡ None =
    expected_at-more m segment a [] from e
    ∙ ap (λ (s : Bool). after_block s [] (block_at m a)) kind
    ∙ ap (option_map (λ (u : Told). u.entries)) told in
    none-some [] (sym (ap (expected (has_serials m) (log_block m segment)) sum
    ∙ expected-ended (has_serials m) (log_block m segment) n (b - (a + 1)) step) ∙ here)

-- ---- summaries

pub summary_at : (m : SegmentMemory) (segment a : ℕ) (t : Told) → segment < m.segments → first_of segment ≤ a
    → a < (segment + 1) * 64 → expected_at m segment a ≡ Some [] → told_in (block_at m a) ≡ Some t → IsSummaryAt m a t
summary_at m segment a t below from high e told =
    let here : a / 64 ≡ segment = omega arith in
    record {
      inside = omega arith;
      behind = subst (λ (s : ℕ). first_of s ≤ a) (sym here) from;
      expects = ap (λ (s : ℕ). expected_at m s a) here ∙ e;
      told = told;
    }

-- of a segment that is known
pub expects_in : (m : SegmentMemory) (segment a : ℕ) (t : Told) → IsSummaryAt m a t → a / 64 ≡ segment
    → (first_of segment ≤ a) × (expected_at m segment a ≡ Some [])
expects_in m segment a t s here =
    (subst (λ (n : ℕ). first_of n ≤ a) here s.behind, ap (λ (n : ℕ). expected_at m n a) (sym here) ∙ s.expects)

-- ---- each link is begun

first_or_rest : (q : PartialSegment) (ps : List PartialSegment) (p : PartialSegment) → Contains (q ∷ ps) p
    → (q ≡ p) ⊎ Contains ps p
first_or_rest q ps p there = ⊎_elim
    (λ (first : Contains (q ∷ []) p). ⊎_elim
    (λ (none : Contains [] p). let below = none.1 in absurd (omega arith))
    (λ (is : q ≡ p). inl is)
    (Contains-push_cases [] q p first))
    (λ (rest : Contains ps p). inr rest)
    (Contains-append_cases (q ∷ []) ps p there)

pub chain_begun : (m : SegmentMemory) (segment : ℕ) → has_serials m ≡ true → segment < m.segments → (address above : ℕ)
    (ps : List PartialSegment) (p : PartialSegment) → first_of segment ≤ address → expected_at m segment address ≡ Some []
    → IsChain m segment address above ps → Contains ps p → IsBegun m p
chain_begun m segment kind below address above [] p from e chain there =
    let none = there.1 in absurd (omega arith)
chain_begun m segment kind below address above (q ∷ ps) p from e chain there =
    let link = chain.0 in
    let place = link.place in
    let inside = link.inside in
    let told = link.whole.told in
    let at : expected_at m segment q.address ≡ Some [] = ap (expected_at m segment) place ∙ e in
    let count = link.whole.count in
    let behind : q.address + 1 + length told.entries ≡ q.address + 1 + q.count =
    ap (λ (n : ℕ). q.address + 1 + n) count in
    ⊎_elim
    (λ (first : q ≡ p). subst (IsBegun m) first (record {
      told = told;
      summary = summary_at m segment q.address told below (omega arith) (omega arith) at link.whole.spelled;
      serial = link.whole.serial;
      count = count;
    }))
    (λ (rest : Contains ps p). chain_begun m segment kind below (q.address + 1 + q.count) q.serial ps p (omega arith)
    (ap (expected_at m segment) (sym behind) ∙ expected-next m segment q.address told kind (omega arith) at
    link.whole.spelled) chain.1 rest)
    (first_or_rest q ps p there)

pub finds_begun : FindsBegun
finds_begun m p kind l =
    chain_begun m l.segment kind l.below (first_of l.segment) 0 l.log p (omega arith) (expected_at-first m l.segment)
    l.is.chain l.there

-- ---- each summary is a link

pub whole_begun : (m : SegmentMemory) (next : ℕ) (p : PartialSegment) → IsRisingTo m next → AreWhole m → IsBegun m p
    → IsWhole m p
whole_begun m next p rising whole b = record {
  told = b.told;
  spelled = b.summary.told;
  serial = b.serial;
  count = b.count;
  segment = rising.segment p.address b.told b.summary;
  offset = rising.offset p.address b.told b.summary;
  last = whole.last p.address b.told b.summary;
  record_there = ap (λ (n : ℕ). has_record m (p.address + n)) (sym b.count)
      ∙ whole.record_there p.address b.told b.summary;
}

link_begun : (m : SegmentMemory) (next segment address above : ℕ) (p : PartialSegment) → IsRisingTo m next → AreWhole m
    → IsBegun m p → p.address ≡ address → p.address / 64 ≡ segment → above < p.serial → IsLink m segment address above p
link_begun m next segment address above p rising whole b place here rises =
    let w = whole_begun m next p rising whole b in
    record {
      whole = w;
      place = place;
      inside = whole_inside m segment p w (omega arith) (omega arith);
      rises = rises;
    }

-- what stands at an address is known
same_begun : (m : SegmentMemory) (p q : PartialSegment) (w : IsWhole m q) → IsBegun m p → q.address ≡ p.address → q ≡ p
same_begun m p q w b place =
    let told : w.told ≡ b.told = same_Some w.told b.told
    (sym w.spelled ∙ ap (λ (a : ℕ). told_in (block_at m a)) place ∙ b.summary.told) in
    let serial : q.serial ≡ p.serial = sym w.serial ∙ ap (λ (t : Told). t.serial) told ∙ b.serial in
    let count : q.count ≡ p.count = sym w.count ∙ ap (λ (t : Told). length t.entries) told ∙ b.count in
    λ i. record { serial = serial i; address = place i; count = count i }

-- where a summary comes at an address or behind it, one is there
there_is : (m : SegmentMemory) (segment address b : ℕ) (u : Told) (o : Option Told) → has_serials m ≡ true
    → first_of segment ≤ address → expected_at m segment address ≡ Some [] → expected_at m segment b ≡ Some []
    → told_in (block_at m b) ≡ Some u → address ≤ b → told_in (block_at m address) ≡ o
    → (t : Told) × (told_in (block_at m address) ≡ Some t)
there_is m segment address b u (Some t) kind from e here told low is = (t, is)
there_is m segment address b u None kind from e here told low is = ⊎_elim
    (λ (less : address < b). absurd (none_past m segment address b kind from e is less here))
    (λ (not_less : b ≤ address). let same : address ≡ b = omega arith in
    absurd (none-some u (sym is ∙ ap (λ (a : ℕ). told_in (block_at m a)) same ∙ told)))
    (cases_lt address b)

-- the serials of summaries from an address on are above one
abbrev AreAbove : SegmentMemory → ℕ → ℕ → ℕ → Type 0
AreAbove m segment address above = (a : ℕ) (t : Told) → IsSummaryAt m a t → a / 64 ≡ segment → address ≤ a → above < t.serial

pub chain_all : (m : SegmentMemory) (next segment : ℕ) → has_serials m ≡ true → IsRisingTo m next → AreWhole m
    → segment < m.segments → (address above : ℕ) (ps : List PartialSegment) (p : PartialSegment)
    → first_of segment ≤ address → expected_at m segment address ≡ Some [] → AreAbove m segment address above
    → IsLongest m segment address above ps → IsBegun m p → p.address / 64 ≡ segment → address ≤ p.address
    → Contains ps p
chain_all m next segment kind rising whole below address above [] p from e high longest b here low =
    let at = expects_in m segment p.address b.told b.summary here in
    let found = there_is m segment address p.address b.told (told_in (block_at m address)) kind from e at.1 b.summary.told low
    refl in
    let t = found.0 in
    let s = summary_at m segment address t below from (omega arith) e found.1 in
    let q : PartialSegment = record { serial = t.serial; address = address; count = length t.entries } in
    let begun : IsBegun m q = record { told = t; summary = s; serial = refl; count = refl } in
    let in_segment : address / 64 ≡ segment = omega arith in
    absurd (longest.ended q (
      link_begun m next segment address above q rising whole begun refl in_segment
          (high address t s in_segment (omega arith)),
      tt,
    ))
chain_all m next segment kind rising whole below address above (q ∷ ps) p from e high longest b here low =
    let link = longest.chain.0 in
    let place = link.place in
    let inside = link.inside in
    let told = link.whole.told in
    let count = link.whole.count in
    let serial = link.whole.serial in
    let at : expected_at m segment q.address ≡ Some [] = ap (expected_at m segment) place ∙ e in
    let there = expects_in m segment p.address b.told b.summary here in
    let in_segment : q.address / 64 ≡ segment = omega arith in
    let s = summary_at m segment q.address told below (omega arith) (omega arith) at link.whole.spelled in
    ⊎_elim
    (λ (less : q.address < p.address). ⊎_elim
    (λ (within : p.address < q.address + 1 + length told.entries).
    absurd (none_within m segment q.address p.address told kind (omega arith) at link.whole.spelled less within there.1))
    (λ (past : q.address + 1 + length told.entries ≤ p.address).
    let behind : q.address + 1 + q.count ≡ q.address + 1 + length told.entries =
    ap (λ (n : ℕ). q.address + 1 + n) (sym count) in
    let rest : IsLongest m segment (q.address + 1 + q.count) q.serial ps =
    record { chain = longest.chain.1; ended = λ r is. longest.ended r (link, is) } in
    Contains-append_right (q ∷ []) ps p
    (chain_all m next segment kind rising whole below (q.address + 1 + q.count) q.serial ps p (omega arith)
    (ap (expected_at m segment) behind ∙ expected-next m segment q.address told kind (omega arith) at link.whole.spelled)
    (λ a t summary same after. let more = rising.rises q.address a told t s summary (in_segment ∙ sym same) (omega arith) in
    omega arith)
    rest b here (omega arith)))
    (cases_lt p.address (q.address + 1 + length told.entries)))
    (λ (not_less : p.address ≤ q.address).
    let same : q.address ≡ p.address = omega arith in
    subst (Contains (q ∷ ps)) (same_begun m p q link.whole b same)
    (Contains-append_left (q ∷ []) ps q (Contains-push [] q)))
    (cases_lt q.address p.address)

-- a serial is at least 1
pub told_some : (bytes : List ℕ) (t : Told) → told_in bytes ≡ Some t → 0 < t.serial
told_some bytes t e = ⊎_elim
    (λ (none : word_at bytes 12 < 1). absurd (none-some t (sym (told_in-zero bytes (omega arith)) ∙ e)))
    (λ (some : 1 ≤ word_at bytes 12).
    let w = map_some (told_of bytes) (summary_entries (without_serial bytes)) t
    (sym (told_in-more bytes (omega arith)) ∙ e) in
    let serial : word_at bytes 12 ≡ t.serial = ap (λ (u : Told). u.serial) w.1.1 in
    omega arith)
    (cases_lt (word_at bytes 12) 1)

pub finds_all : FindsAll
finds_all m next p kind rising whole b =
    let segment : ℕ = p.address / 64 in
    let inside = b.summary.inside in
    let below : segment < m.segments = omega arith in
    let logs = partials-logs m (partials m (end_of m)) refl in
    let is : IsLog m segment (logs.logs segment) = logs.each segment below in
    let some : (a : ℕ) (t : Told) → IsSummaryAt m a t → 0 < t.serial = λ a t s. told_some (block_at m a) t s.told in
    record {
      segment = segment;
      log = logs.logs segment;
      below = below;
      is = is;
      there = chain_all m next segment kind rising whole below (first_of segment) 0 (logs.logs segment) p (omega arith)
          (expected_at-first m segment) (λ a t s here low. some a t s) is b refl b.summary.behind;
    }

-- ---- the end

-- where the last partial segment ends, no summary follows
no_later : (m : SegmentMemory) (next segment a b : ℕ) (p : PartialSegment) (o : Option Told) → has_serials m ≡ true
    → IsRisingTo m next → AreWhole m → segment < m.segments → IsBegun m p → p.address / 64 ≡ segment
    → p.address < a → first_of segment ≤ a → a < (segment + 1) * 64 → expected_at m segment a ≡ Some []
    → ((q : PartialSegment) → IsLogged m q → q.serial ≤ p.serial) → a < b → expected_at m segment b ≡ Some []
    → told_in (block_at m a) ≡ o → ⊥
no_later m next segment a b p None kind rising whole below begun here low from high e latest less ready is =
    none_past m segment a b kind from e is less ready
no_later m next segment a b p (Some t) kind rising whole below begun here low from high e latest less ready is =
    let s = summary_at m segment a t below from high e is in
    let q : PartialSegment = record { serial = t.serial; address = a; count = length t.entries } in
    let first : t.serial ≤ p.serial = latest q (finds_all m next q kind rising whole (record { told = t; summary = s; serial = refl; count = refl }))
    in
    let in_segment : a / 64 ≡ segment = omega arith in
    let more = rising.rises p.address a begun.told t begun.summary s (here ∙ sym in_segment) low in
    let serial = begun.serial in
    absurd (omega arith)

end_in : (m : SegmentMemory) (next : ℕ) (last : PartialSegment) → has_serials m ≡ true → IsLaidOut m
    → IsRisingTo m next → AreWhole m → Expects m [] → IsBegun m last → last.address / 64 ≡ m.active
    → ((q : PartialSegment) → IsLogged m q → q.serial ≤ last.serial)
    → next_address m ≡ last.address + 1 + last.count
end_in m next last kind laid rising whole ready b here latest =
    let segment = m.active in
    let below = laid.active in
    let within = laid.within in
    let begun = laid.begun in
    let w = whole_begun m next last rising whole b in
    let inside = whole_inside m segment last w (omega arith) (omega arith) in
    let at = expects_in m segment last.address b.told b.summary here in
    let from = at.0 in
    let count = b.count in
    let behind : last.address + 1 + length b.told.entries ≡ last.address + 1 + last.count =
    ap (λ (n : ℕ). last.address + 1 + n) count in
    let there : expected_at m segment (last.address + 1 + last.count) ≡ Some [] =
    ap (expected_at m segment) (sym behind) ∙ expected-next m segment last.address b.told kind from at.1 b.summary.told in
    ⊎_elim
    (λ (before : last.address < next_address m). ⊎_elim
    (λ (less : last.address + 1 + last.count < next_address m).
    absurd (no_later m next segment (last.address + 1 + last.count) (next_address m) last
    (told_in (block_at m (last.address + 1 + last.count))) kind rising whole below b here (omega arith) (omega arith)
    (omega arith) there latest less ready.pending refl))
    (λ (not_less : next_address m ≤ last.address + 1 + last.count). ⊎_elim
    (λ (inner : next_address m < last.address + 1 + last.count).
    absurd (none_within m segment last.address (next_address m) b.told kind from at.1 b.summary.told before (omega arith)
    ready.pending))
    (λ (not_inner : last.address + 1 + last.count ≤ next_address m). omega arith)
    (cases_lt (next_address m) (last.address + 1 + last.count)))
    (cases_lt (last.address + 1 + last.count) (next_address m)))
    (λ (past : next_address m ≤ last.address).
    absurd (none_behind m [] last.address b.told ready past (omega arith) b.summary))
    (cases_lt last.address (next_address m))

pub finds_end : FindsEnd
finds_end m next p last kind laid rising whole ready b here l latest =
    let lb = finds_begun m last kind l in
    let first = latest p (finds_all m next p kind rising whole b) in
    let serial = b.serial in
    let last_serial = lb.serial in
    ⊎_elim
    (λ (same : last.address / 64 ≡ m.active). end_in m next last kind laid rising whole ready lb same latest)
    (λ (other : last.address / 64 ≢ m.active).
    let more = rising.active last.address p.address lb.told b.told lb.summary b.summary other here in absurd (omega arith))
    (cases_eq (last.address / 64) m.active)
