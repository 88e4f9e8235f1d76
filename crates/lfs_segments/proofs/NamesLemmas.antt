-- All that a log names are entries (`IsEntry-named`), and a segment has at most 62 (`names_from-at_most`, for the scan
-- of `lfs_log`). `IsCounted` goes block by block and counts summaries beside names: the two together are at most 64
-- blocks, and each summary names at most 40, so one summary leaves 40 names and two leave 62. The 62 is another as soon
-- as `ENTRY_LIMIT` or `SEGMENT_BLOCKS` is.
use Rattle.std.proofs.Common.{◌≡◌, ℕ, zero, suc, ◌+◌, ◌-◌, ◌*◌, ◌/◌, ◌<◌, ◌≤◌, Bool, true, false, List, [], ◌∷◌, Option}
use Rattle.std.proofs.Common.{Some, None, length, get_or, ⊎_elim, refl, sym, ap, subst, ◌∙◌, arith}
use Rattle.std.specs.List.{Contains}
use Rattle.std.proofs.lemmas.Bool.{cases_lt}
use Rattle.std.proofs.lemmas.List.{length-append}
use Rattle.std.proofs.lemmas.List.Elements.{Contains-append_cases, Contains-append_left, Contains-push}
use Rattle.std.proofs.lemmas.Option.{none-some, same_Some}
use Rattle.lfs_segments.specs.declared.entry.SummaryEntry.{SummaryEntry}
use Rattle.lfs_segments.specs.Bytes.{half_at}
use Rattle.lfs_segments.specs.Entry.{IsEntry, unused}
use Rattle.lfs_segments.specs.Log.{after_block, entry_at, expected, expected_at, first_of, log_block, named_one}
use Rattle.lfs_segments.specs.Log.{names_from}
use Rattle.lfs_segments.specs.Memory.{SegmentMemory, has_serials, log_start}
use Rattle.lfs_segments.specs.Reading.{entries_from, is_summary, summary_entries}
use Rattle.lfs_segments.proofs.LogLemmas.{entry_at-in, next_entry}
use Rattle.lfs_segments.proofs.MemoryLemmas.{log_start-le}
use Rattle.lfs_segments.proofs.ReadingLemmas.{count_of_summary, entries_of_summary}
use Rattle.lfs_segments.proofs.SerialLemmas.{entries_in-plain}
use Rattle.lfs_segments.proofs.TestLemmas.{get_or-entries_from, length-entries_from}

-- entries of a summary, of which some may have been used
abbrev AreNamed : List SummaryEntry → Type 0
AreNamed entries = (k : ℕ) → k < length entries → IsEntry (get_or entries k unused)

tested_at : (bytes : List ℕ) (entries : List SummaryEntry) (passes : Bool) → is_summary bytes ≡ passes
    → summary_entries bytes ≡ Some entries
    → (is_summary bytes ≡ true) × (entries_from bytes 16 (half_at bytes 10) ≡ entries)
unfolding summary_entries
tested_at bytes entries true e h = (e, same_Some _ _ (rw e at h))
tested_at bytes entries false e h = absurd (none-some entries (rw e at h))

-- a summary names at most 40 blocks
pub summary_entries-at_most : (bytes : List ℕ) (entries : List SummaryEntry) → summary_entries bytes ≡ Some entries
    → length entries ≤ 40
summary_entries-at_most bytes entries h =
    let tested = tested_at bytes entries (is_summary bytes) refl h in
    let count = count_of_summary bytes tested.0 in
    let long = length-entries_from bytes 16 (half_at bytes 10) in
    let same : length (entries_from bytes 16 (half_at bytes 10)) ≡ length entries = ap length tested.1 in
    omega arith

-- each by an entry
pub summary_entries-named : (bytes : List ℕ) (entries : List SummaryEntry) → summary_entries bytes ≡ Some entries
    → (k : ℕ) → k < length entries → IsEntry (get_or entries k unused)
summary_entries-named bytes entries h = λ k below.
    let tested = tested_at bytes entries (is_summary bytes) refl h in
    let long = length-entries_from bytes 16 (half_at bytes 10) in
    let same : length (entries_from bytes 16 (half_at bytes 10)) ≡ length entries = ap length tested.1 in
    let inside : k < half_at bytes 10 = omega arith in
    subst IsEntry (sym (get_or-entries_from bytes 16 (half_at bytes 10) k unused inside)
    ∙ ap (λ (xs : List SummaryEntry). get_or xs k unused) tested.1) (entries_of_summary bytes tested.0 k inside)

named_behind : (s : Bool) (before after : List SummaryEntry) (block : List ℕ) → AreNamed before
    → after_block s before block ≡ Some after → AreNamed after
named_behind s [] after block each h =
    let found = entries_in-plain s block after h in summary_entries-named found.0 after found.1
named_behind s (entry ∷ before) after block each h =
    subst AreNamed (same_Some before after h) (λ k below. each (suc k) (omega arith))

named_step : (s : Bool) (o : Option (List SummaryEntry)) (f : ℕ → List ℕ) (n : ℕ) (after : List SummaryEntry)
    → expected s f n ≡ o
    → ((before : List SummaryEntry) → o ≡ Some before → AreNamed before) → expected s f (suc n) ≡ Some after
    → AreNamed after
unfolding expected
named_step s None f n after e each h = absurd (none-some after (rw e at h))
named_step s (Some before) f n after e each h = named_behind s before after (f n) (each before refl) (rw e at h)

-- what a log expects are entries
pub expected-named : (s : Bool) (f : ℕ → List ℕ) (n : ℕ) (entries : List SummaryEntry) → expected s f n ≡ Some entries
    → (k : ℕ) → k < length entries → IsEntry (get_or entries k unused)
unfolding expected
expected-named s f zero entries e = let none = same_Some [] entries e in
    subst AreNamed none (λ k below. absurd (omega arith))
expected-named s f (suc n) entries e = named_step s (expected s f n) f n entries refl
    (λ before e. expected-named s f n before e) e

next_named : (o : Option (List SummaryEntry)) (entry : SummaryEntry)
    → ((entries : List SummaryEntry) → o ≡ Some entries → AreNamed entries) → next_entry o ≡ Some entry → IsEntry entry
next_named None entry each h = absurd (none-some entry h)
next_named (Some []) entry each h = absurd (none-some entry h)
next_named (Some (first ∷ entries)) entry each h =
    subst IsEntry (same_Some first entry h) (each (first ∷ entries) refl 0 (omega arith))

-- and so are those that it names
pub IsEntry-named : (m : SegmentMemory) (address : ℕ) (entry : SummaryEntry) → entry_at m address ≡ Some entry
    → IsEntry entry
unfolding entry_at
IsEntry-named m address entry h = next_named (expected_at m (address / 64) address) entry
    (λ entries e. expected-named (has_serials m) (log_block m (address / 64)) (address - first_of (address / 64)) entries e)
    h

-- Of the first n blocks of a log some are summaries. Those that are named, and those still expected, are at most 40 for
-- each.
record IsCounted (m : SegmentMemory) (segment n : ℕ) : Type 0 where
  summaries : ℕ
  within : length (names_from m (first_of segment) n) + summaries ≤ n
  named : length (names_from m (first_of segment) n) ≤ 40 * summaries
  pending : (entries : List SummaryEntry) → expected (has_serials m) (log_block m segment) n ≡ Some entries
      → length (names_from m (first_of segment) n) + length entries ≤ 40 * summaries

module _ (m : SegmentMemory) (segment n : ℕ) (inside : n < 64 - log_start segment) where
  here : entry_at m (first_of segment + n) ≡ next_entry (expected (has_serials m) (log_block m segment) n)
  here =
      let low = log_start-le segment in
      let same : first_of segment + n - first_of segment ≡ n = omega arith in
      entry_at-in m segment (first_of segment + n) (omega arith)
      ∙ ap (λ (i : ℕ). next_entry (expected (has_serials m) (log_block m segment) i)) same

  more : (o : Option (List SummaryEntry)) → expected (has_serials m) (log_block m segment) n ≡ o
      → length (names_from m (first_of segment) (suc n)) ≡ length (names_from m (first_of segment) n)
      + length (named_one (first_of segment + n) (next_entry o))
  unfolding names_from
  more o e = rw (here, e) (length-append (names_from m (first_of segment) n)
      (named_one (first_of segment + n) (next_entry o)))

  counted_more : (o : Option (List SummaryEntry)) → expected (has_serials m) (log_block m segment) n ≡ o → IsCounted m segment n
      → IsCounted m segment (suc n)
  unfolding expected
  counted_more None e c =
      let count = more None e in let within = c.within in let named = c.named in
      record {
        summaries = c.summaries;
        within = omega arith;
        named = omega arith;
        pending = λ entries h. absurd (none-some entries (rw e at h));
      }
  counted_more (Some []) e c =
      let count = more (Some []) e in let within = c.within in let named = c.named in
      record {
        summaries = c.summaries + 1;
        within = omega arith;
        named = omega arith;
        pending = λ entries h. let found = entries_in-plain (has_serials m) (log_block m segment n) entries (rw e at h) in
            let few = summary_entries-at_most found.0 entries found.1 in omega arith;
      }
  counted_more (Some (entry ∷ before)) e c =
      let count = more (Some (entry ∷ before)) e in let within = c.within in let named = c.named in
      let pending = c.pending (entry ∷ before) e in
      record {
        summaries = c.summaries;
        within = omega arith;
        named = omega arith;
        pending = λ entries h. let rest = ap length (same_Some before entries (rw e at h)) in omega arith;
      }

counted : (m : SegmentMemory) (segment n : ℕ) → n ≤ 64 - log_start segment → IsCounted m segment n
unfolding expected names_from
counted m segment zero inside = record {
  summaries = 0;
  within = omega arith;
  named = omega arith;
  pending = λ entries h. let none = ap length (same_Some [] entries h) in omega arith;
}
counted m segment (suc n) inside = counted_more m segment n (omega arith) (expected (has_serials m) (log_block m segment) n) refl
    (counted m segment n (omega arith))

-- a segment names at most 62 blocks
pub names_from-at_most : (m : SegmentMemory) (segment : ℕ)
    → length (names_from m (first_of segment) (64 - log_start segment)) ≤ 62
names_from-at_most m segment =
    let c = counted m segment (64 - log_start segment) (omega arith) in
    let within = c.within in let named = c.named in omega arith

-- the names of a run of addresses have that of each
pub names_from-contains : (m : SegmentMemory) (first count address : ℕ) (entry : SummaryEntry) → first ≤ address
    → address < first + count → entry_at m address ≡ Some entry
    → Contains (names_from m first count) (address, entry)
unfolding names_from
names_from-contains m first zero address entry from below named = absurd (omega arith)
names_from-contains m first (suc count) address entry from below named = ⊎_elim
    (λ (earlier : address < first + count). Contains-append_left (names_from m first count) _ (address, entry)
    (names_from-contains m first count address entry from earlier named))
    (λ (last : first + count ≤ address). let at : first + count
    ≡ address = omega arith in rw (at, named) (Contains-push (names_from m first count) (address, entry)))
    (cases_lt address (first + count))

one_at : (place : ℕ) (named : SummaryEntry) (x : ℕ × SummaryEntry) (k : ℕ) → k < 1 → get_or ((place, named) ∷ []) k x
    ≡ x → (x.0 ≡ place) × (Some named ≡ Some x.1)
one_at place named x zero below same = (
  ap (λ (p : ℕ × SummaryEntry). p.0) (sym same),
  ap (λ (p : ℕ × SummaryEntry). Some p.1) same,
)
one_at place named x (suc k) below same = absurd (omega arith)

one_named : (place address : ℕ) (o : Option SummaryEntry) (entry : SummaryEntry)
    → Contains (named_one place o) (address, entry) → (address ≡ place) × (o ≡ Some entry)
one_named place address None entry h = let below = h.1 in absurd (omega arith)
one_named place address (Some named) entry h = one_at place named (address, entry) h.0 h.1 h.2

-- and no others
pub names_from-named : (m : SegmentMemory) (first count address : ℕ) (entry : SummaryEntry)
    → Contains (names_from m first count) (address, entry)
    → (first ≤ address) × (address < first + count) × (entry_at m address ≡ Some entry)
unfolding names_from
names_from-named m first zero address entry h = let below = h.1 in absurd (omega arith)
names_from-named m first (suc count) address entry h = ⊎_elim
    (λ (earlier : Contains (names_from m first count) (address, entry)).
    let found = names_from-named m first count address entry earlier in
    let from = found.0 in let below = found.1 in (from, omega arith, found.2))
    (λ (last : Contains (named_one (first + count) (entry_at m (first + count))) (address, entry)).
    let found = one_named (first + count) address (entry_at m (first + count)) entry last in
    let at = found.0 in (omega arith, omega arith, ap (entry_at m) at ∙ found.1))
    (Contains-append_cases (names_from m first count) (named_one (first + count) (entry_at m (first + count))) (
      address,
      entry,
    ) h)
