-- `summary_entries` names a block's entries just where the grammar `IsSummaryBlock` has a summary for it:
-- `entries_read` for `Summary::decode`, `summary_entries-spelled` for `encode`. `PassesEach` takes `is_summary` apart,
-- a fact for each test; from these `summary_of` makes the summary, filled up to 40 entries with `unused`, and shows
-- that the bytes spell it. A field more in the grammar needs its test in `is_summary`, else `summary_of` can't be
-- shown.
use Rattle.std.proofs.Common.{◌≡◌, ℕ, ◌+◌, ◌-◌, ◌*◌, ◌<◌, ◌≤◌, Bool, true, false, ◌&&◌, nat_lt, nat_le, ◌==◌, List}
use Rattle.std.proofs.Common.{◌++◌, Option, Some, None, IfSome, option_map, get_or, slice_index, length, replicate}
use Rattle.std.proofs.Common.{refl, sym, ap, subst, ◌∙◌, ⊎_elim, arith}
use Rattle.std.proofs.lemmas.Bool.{cases_lt, eq-eqb, eqb-true, le-leb, leb-true, lt-ltb, ltb-true}
use Rattle.std.proofs.lemmas.Option.{none-some}
use Rattle.std.proofs.lemmas.List.{ext_get_or, get_or-append_right, get_or-take, get_or_append_left, get_or_past}
use Rattle.std.proofs.lemmas.List.{length-append, length-replicate, length-take}
use Rattle.lfs_segments.specs.declared.entry.SummaryEntry.{SummaryEntry}
use Rattle.lfs_segments.specs.declared.summary.Summary.{Summary}
use Rattle.lfs_segments.specs.Bytes.{half_at, word_at}
use Rattle.lfs_segments.specs.Entry.{IsEntry, IsEntryAt, unused}
use Rattle.lfs_segments.specs.Reading.{all_below, entries_from, entry_from, is_summary, may_name, named_by}
use Rattle.lfs_segments.specs.Reading.{summary_entries}
use Rattle.lfs_segments.specs.Summary.{IsSummaryBlock}
use Rattle.lfs_segments.proofs.BytesLemmas.{get_or-replicate_same}
use Rattle.lfs_segments.proofs.TestLemmas.{all_below-each, all_below-from_each, both, entry_from-spelled}
use Rattle.lfs_segments.proofs.TestLemmas.{get_or-entries_from, length-entries_from, may_name-true, spelled-entry_from}
use Rattle.lfs_segments.proofs.TestLemmas.{true-may_name}

and_true : {a b : Bool} → a ≡ true → b ≡ true → (a && b) ≡ true
and_true p q = rw (p, q) refl

-- whether the entry at a place may stand there
entry_passes : List ℕ → ℕ → Bool
entry_passes bytes k = let e = entry_from bytes (16 + 12 * k) in may_name e.block e.number e.version

byte_passes : List ℕ → ℕ → Bool
byte_passes bytes i = slice_index bytes (16 + 12 * half_at bytes 10 + i) == 0

-- a block that spells a summary passes the tests
pub is_summary-spelled : (bytes : List ℕ) (s : Summary) → IsSummaryBlock bytes s → is_summary bytes ≡ true
unfolding is_summary entry_passes byte_passes
is_summary-spelled bytes s p =
    let count = p.count in
    let offset = p.offset in
    let segment = p.segment in
    let in_volume = s.in_volume in
    let some = s.some in
    let at_most = s.at_most in
    let in_segment = s.in_segment in
    and_true (eq-eqb _ _ p.mark)
    (and_true (lt-ltb (word_at bytes 4) 1024 (omega arith))
    (and_true (le-leb 1 (half_at bytes 10) (omega arith))
    (and_true (le-leb (half_at bytes 10) 40 (omega arith))
    (and_true (le-leb (half_at bytes 8 + half_at bytes 10) 63 (omega arith))
    (and_true (eq-eqb _ _ p.gap)
    (and_true
    (all_below-from_each (entry_passes bytes) (half_at bytes 10) (λ k below.
    let inside : k < s.count = omega arith in
    let e = get_or s.entries k unused in
    let at : entry_from bytes (16 + 12 * k) ≡ e =
    entry_from-spelled bytes (16 + 12 * k) e (s.named k inside) (p.entries k inside) in
    ap (λ (x : SummaryEntry). may_name x.block x.number x.version) at
    ∙ true-may_name e.block e.number e.version (s.named k inside).block (s.named k inside).owner))
    (all_below-from_each (byte_passes bytes) (512 - (16 + 12 * half_at bytes 10))
    (λ i below. eq-eqb _ _ (p.rest (16 + 12 * half_at bytes 10 + i) (omega arith))))))))))

-- and names its entries
pub summary_entries-spelled : (bytes : List ℕ) (s : Summary) → IsSummaryBlock bytes s → summary_entries bytes
    ≡ Some (named_by s)
unfolding summary_entries
summary_entries-spelled bytes s p =
    let count = p.count in
    let whole = s.whole in
    let at_most = s.at_most in
    let long : length (entries_from bytes 16 (half_at bytes 10))
    ≡ length (named_by s) = length-entries_from bytes 16 (half_at bytes 10) ∙ simp length-take (omega arith) in
    let entries : entries_from bytes 16 (half_at bytes 10) ≡ named_by s = ext_get_or unused _ _ long (λ k below.
    let inside : k < s.count = omega (arith, length-entries_from bytes 16 (half_at bytes 10)) in
    get_or-entries_from bytes 16 (half_at bytes 10) k unused (omega arith)
    ∙ entry_from-spelled bytes (16 + 12 * k) (get_or s.entries k unused) (s.named k inside) (p.entries k inside)
    ∙ sym (get_or-take s.count s.entries k unused inside)) in
    rw (is_summary-spelled bytes s p) (ap Some entries)

-- the tests of a summary, one by one
record PassesEach (bytes : List ℕ) : Type 0 where
  mark : word_at bytes 0 ≡ 0x4c46_5353
  in_volume : word_at bytes 4 < 1024
  some : 1 ≤ half_at bytes 10
  at_most : half_at bytes 10 ≤ 40
  fits : half_at bytes 8 + half_at bytes 10 ≤ 63
  gap : word_at bytes 12 ≡ 0
  entries : all_below (entry_passes bytes) (half_at bytes 10) ≡ true
  zeros : all_below (byte_passes bytes) (512 - (16 + 12 * half_at bytes 10)) ≡ true

passes_each : (bytes : List ℕ) → is_summary bytes ≡ true → PassesEach bytes
unfolding is_summary entry_passes byte_passes
passes_each bytes h =
    let n = half_at bytes 10 in
    let is_zero = all_below (byte_passes bytes) (512 - (16 + 12 * n)) in
    let are_entries = all_below (entry_passes bytes) n in
    let has_gap = word_at bytes 12 == 0 in
    let fits = nat_le (half_at bytes 8 + n) 63 in
    let at_most = nat_le n 40 in
    let some = nat_le 1 n in
    let in_volume = nat_lt (word_at bytes 4) 1024 in
    let p1 = both (word_at bytes 0 == 0x4c46_5353)
    (in_volume && (some && (at_most && (fits && (has_gap && (are_entries && is_zero)))))) h in
    let p2 = both in_volume (some && (at_most && (fits && (has_gap && (are_entries && is_zero))))) p1.1 in
    let p3 = both some (at_most && (fits && (has_gap && (are_entries && is_zero)))) p2.1 in
    let p4 = both at_most (fits && (has_gap && (are_entries && is_zero))) p3.1 in
    let p5 = both fits (has_gap && (are_entries && is_zero)) p4.1 in
    let p6 = both has_gap (are_entries && is_zero) p5.1 in
    let p7 = both are_entries is_zero p6.1 in
    record {
      mark = eqb-true _ _ p1.0;
      in_volume = ltb-true _ _ p2.0;
      some = leb-true _ _ p3.0;
      at_most = leb-true _ _ p4.0;
      fits = leb-true _ _ p5.0;
      gap = eqb-true _ _ p6.0;
      entries = p7.0;
      zeros = p7.1;
    }

-- a block that passes names at most 40 blocks, each by an entry
pub count_of_summary : (bytes : List ℕ) → is_summary bytes ≡ true → half_at bytes 10 ≤ 40
count_of_summary bytes h = (passes_each bytes h).at_most

pub entries_of_summary : (bytes : List ℕ) → is_summary bytes ≡ true → (k : ℕ) → k < half_at bytes 10
    → IsEntry (entry_from bytes (16 + 12 * k))
unfolding entry_passes
entries_of_summary bytes h k below =
    let e = entry_from bytes (16 + 12 * k) in
    let fact = may_name-true e.block e.number e.version
    (all_below-each (entry_passes bytes) (half_at bytes 10) (passes_each bytes h).entries k below) in
    record { block = fact.0; owner = fact.1 }

-- a block that passes the tests spells a summary
pub summary_of : (bytes : List ℕ) → length bytes ≡ 512 → is_summary bytes ≡ true → (s : Summary)
    × IsSummaryBlock bytes s
unfolding byte_passes
summary_of bytes long h =
    let n = half_at bytes 10 in
    let tests = passes_each bytes h in
    let small = tests.at_most in
    let front = entries_from bytes 16 n in
    let entries = front ++ replicate (40 - n) unused in
    let front_long : length front ≡ n = length-entries_from bytes 16 n in
    let at = λ (k : ℕ) (below : k < n). get_or_append_left front (replicate (40 - n) unused) unused k (omega arith)
    ∙ get_or-entries_from bytes 16 n k unused below in
    let named : (k : ℕ) → k < n → IsEntry (get_or entries k unused) =
    λ k below. subst IsEntry (sym (at k below)) (entries_of_summary bytes h k below) in
    let rest : (k : ℕ) → n ≤ k → get_or entries k unused ≡ unused = λ k past.
    get_or-append_right front (replicate (40 - n) unused) n k unused front_long past
    ∙ get_or-replicate_same (40 - n) unused (k - n) in
    let whole : length entries ≡ 40 = simp (length-append, length-replicate) (omega arith) in
    let spelled : (k : ℕ) → k < n → IsEntryAt bytes (16 + 12 * k) (get_or entries k unused) = λ k below.
    subst (IsEntryAt bytes (16 + 12 * k)) (sym (at k below)) (spelled-entry_from bytes (16 + 12 * k)) in
    let zeros : (i : ℕ) → 16 + 12 * n ≤ i → slice_index bytes i ≡ 0 = λ i past. ⊎_elim
    (λ (inside : i < 512).
    let byte = eqb-true _ _ (all_below-each (byte_passes bytes) (512 - (16 + 12 * n)) tests.zeros (i - (16 + 12 * n))
    (omega arith)) in
    let place : i ≡ 16 + 12 * n + (i - (16 + 12 * n)) = omega arith in
    ap (λ (j : ℕ). slice_index bytes j) place ∙ byte)
    (λ (over : 512 ≤ i). get_or_past bytes i 0 (omega arith))
    (cases_lt i 512) in
    let summary : Summary = record {
      segment = word_at bytes 4;
      offset = half_at bytes 8;
      count = n;
      entries = entries;
      in_volume = tests.in_volume;
      some = tests.some;
      at_most = small;
      in_segment = tests.fits;
      whole = whole;
      named = named;
      rest = rest;
    } in (
      summary,
      record {
        mark = tests.mark;
        segment = refl;
        offset = refl;
        count = refl;
        gap = tests.gap;
        entries = spelled;
        rest = zeros;
      },
    )

none_named : (bytes : List ℕ) (passes : Bool) → is_summary bytes ≡ passes → length bytes ≡ 512
    → ((s : Summary) → IsSummaryBlock bytes s → ⊥) → summary_entries bytes ≡ None
unfolding summary_entries
none_named bytes true e long none = let found = summary_of bytes long e in absurd (none found.0 found.1)
none_named bytes false e long none = rw e refl

-- a block outside the grammar names none
pub summary_entries-none : (bytes : List ℕ) → length bytes ≡ 512 → ((s : Summary) → IsSummaryBlock bytes s → ⊥)
    → summary_entries bytes ≡ None
summary_entries-none bytes long none = none_named bytes (is_summary bytes) refl long none

-- what is read off a block, if it is the summary that the block spells
pub entries_read : (bytes : List ℕ) (read : Option Summary) → length bytes ≡ 512
    → IfSome read (λ s. IsSummaryBlock bytes s) → ((s : Summary) → IsSummaryBlock bytes s → read ≡ Some s)
    → option_map named_by read ≡ summary_entries bytes
entries_read bytes None long found only = sym (summary_entries-none bytes long (λ s p. none-some s (only s p)))
entries_read bytes (Some s) long found only = sym (summary_entries-spelled bytes s found)
