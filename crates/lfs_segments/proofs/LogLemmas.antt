-- What a log expects and names at an address rests on the earlier blocks of its segment (`expected-same`,
-- `entry_at-same`), and what it expects it names in turn (`entry_at-pending`): WritingLemmas stands on these, and the
-- scan of `lfs_log` on the steps between (`expected_at-more`, `names_from-more`). Each goes by induction on the number
-- of blocks, as `expected` does; None stays None (`expected-ended`). Nothing here would hold of an `expected` that looks
-- ahead, or that goes on behind a block that is no summary.
use Rattle.std.proofs.Common.{◌≡◌, ℕ, zero, suc, ◌+◌, ◌-◌, ◌*◌, ◌/◌, ◌<◌, ◌≤◌, List, [], ◌∷◌, ◌++◌, Option, Some, None}
use Rattle.std.proofs.Common.{Bool, option_and_then, length, drop, refl, sym, ap, ◌∙◌, arith}
use Rattle.std.proofs.Common.{append_assoc, append-nil}
use Rattle.std.specs.List.{slice_get}
use Rattle.lfs_segments.specs.declared.entry.SummaryEntry.{SummaryEntry}
use Rattle.lfs_segments.specs.Log.{Expects, after_block, entry_at, expected, expected_at, first_of, log_block}
use Rattle.lfs_segments.specs.Log.{named_one, names_from}
use Rattle.lfs_segments.specs.Memory.{IsLaidOut, SegmentMemory, block_at, has_serials, next_address}
use Rattle.lfs_segments.proofs.MemoryLemmas.{log_start-le}

-- the entry of the next block, if some are expected
abbrev pub next_entry : Option (List SummaryEntry) → Option SummaryEntry
next_entry expectation = option_and_then (λ entries. slice_get entries 0) expectation

-- logs that agree on their first blocks expect the same behind them
pub expected-same : (s : Bool) (f g : ℕ → List ℕ) (n : ℕ) → ((k : ℕ) → k < n → f k ≡ g k) → expected s f n
    ≡ expected s g n
unfolding expected
expected-same s f g zero same = refl
expected-same s f g (suc n) same =
    rw (expected-same s f g n (λ k below. same k (omega arith)), same n (omega arith)) refl

-- one block more
pub expected-more : (s : Bool) (f : ℕ → List ℕ) (n : ℕ) (entries : List SummaryEntry) → expected s f n ≡ Some entries
    → expected s f (n + 1) ≡ after_block s entries (f n)
unfolding expected
expected-more s f n entries e = let one : n + 1 ≡ suc n = omega arith in rw (one, e) refl

-- a log that has ended stays so
pub expected-ended : (s : Bool) (f : ℕ → List ℕ) (n j : ℕ) → expected s f n ≡ None → expected s f (n + j) ≡ None
unfolding expected
expected-ended s f n zero e = let none : n + 0 ≡ n = omega arith in rw (none, e) refl
expected-ended s f n (suc j) e =
    let one : n + suc j ≡ suc (n + j) = omega arith in rw (one, expected-ended s f n j e) refl

-- the blocks of the entries are expected in turn, whatever they are
pub expected-entries : (s : Bool) (f : ℕ → List ℕ) (n j : ℕ) (entries : List SummaryEntry) → expected s f n
    ≡ Some entries → j ≤ length entries → expected s f (n + j) ≡ Some (drop j entries)
expected-entries s f n zero entries e within = let none : n + 0 ≡ n = omega arith in rw none e
expected-entries s f n (suc j) [] e within = absurd (omega arith)
expected-entries s f n (suc j) (entry ∷ entries) e within =
    let one : n + suc j ≡ n + 1 + j = omega arith in
    ap (expected s f) one
    ∙ expected-entries s f (n + 1) j entries (expected-more s f n (entry ∷ entries) e) (omega arith)

-- an address whose segment is known
pub entry_at-in : (m : SegmentMemory) (segment address : ℕ) → address / 64 ≡ segment → entry_at m address
    ≡ next_entry (expected_at m segment address)
unfolding entry_at
entry_at-in m segment address here = ap (λ (s : ℕ). next_entry (expected_at m s address)) here

-- one address more, of a segment's log
pub expected_at-more : (m : SegmentMemory) (segment address : ℕ) (entries : List SummaryEntry)
    → first_of segment ≤ address → expected_at m segment address ≡ Some entries
    → expected_at m segment (address + 1) ≡ after_block (has_serials m) entries (block_at m address)
expected_at-more m segment address entries from e =
    let one : address + 1 - first_of segment ≡ address - first_of segment + 1 = omega arith in
    let at : first_of segment + (address - first_of segment) ≡ address = omega arith in
    ap (expected (has_serials m) (log_block m segment)) one
    ∙ expected-more (has_serials m) (log_block m segment) (address - first_of segment) entries e
    ∙ ap (λ (a : ℕ). after_block (has_serials m) entries (block_at m a)) at

-- a segment's log begins with a summary
pub expected_at-first : (m : SegmentMemory) (segment : ℕ) → expected_at m segment (first_of segment) ≡ Some []
unfolding expected
expected_at-first m segment = let none : first_of segment - first_of segment ≡ 0 = omega arith in rw none refl

-- where it has ended, nothing more is named
pub entry_at-ended : (m : SegmentMemory) (segment end address : ℕ) → expected_at m segment end ≡ None → end ≤ address
    → address / 64 ≡ segment → first_of segment ≤ end → entry_at m address ≡ None
entry_at-ended m segment end address e past inside from =
    let sum : address - first_of segment ≡ end - first_of segment + (address - end) = omega arith in
    entry_at-in m segment address inside
    ∙ ap (λ (n : ℕ). next_entry (expected (has_serials m) (log_block m segment) n)) sum
    ∙ ap next_entry (expected-ended (has_serials m) (log_block m segment) (end - first_of segment) (address - end) e)

-- the entry of an address rests on the earlier blocks of its segment, and on whether summaries have serials
pub entry_at-same : (m n : SegmentMemory) (address : ℕ) → has_serials n ≡ has_serials m
    → ((a : ℕ) → address / 64 * 64 ≤ a → a < address → block_at n a ≡ block_at m a) → entry_at n address
    ≡ entry_at m address
unfolding entry_at
entry_at-same m n address kind same =
    let segment : ℕ = address / 64 in
    ap (λ (s : Bool). next_entry (expected s (log_block n segment) (address - first_of segment))) kind
    ∙ ap next_entry (expected-same (has_serials m) (log_block n segment) (log_block m segment) (address - first_of segment)
    (λ k below. same (first_of segment + k) (omega arith) (omega arith)))

-- one address more
pub names_from-more : (m : SegmentMemory) (first count : ℕ) → names_from m first (count + 1) ≡ names_from m first count
    ++ named_one (first + count) (entry_at m (first + count))
unfolding names_from
names_from-more m first count = let one : count + 1 ≡ suc count = omega arith in rw one refl

-- two runs of addresses
pub names_from-append : (m : SegmentMemory) (first i j : ℕ) → names_from m first (i + j) ≡ names_from m first i
    ++ names_from m (first + i) j
unfolding names_from
names_from-append m first i zero = let none : i + 0
    ≡ i = omega arith in rw none (sym (append-nil (names_from m first i)))
names_from-append m first i (suc j) =
    let one : i + suc j ≡ suc (i + j) = omega arith in
    let at : first + (i + j) ≡ first + i + j = omega arith in
    rw (one, names_from-append m first i j, at)
    (append_assoc (names_from m first i) (names_from m (first + i) j)
    (named_one (first + i + j) (entry_at m (first + i + j))))

-- addresses without an entry
pub names_from-none : (m : SegmentMemory) (first count : ℕ)
    → ((a : ℕ) → first ≤ a → a < first + count → entry_at m a ≡ None) → names_from m first count ≡ []
unfolding names_from
names_from-none m first zero none = refl
names_from-none m first (suc count) none =
    rw (
      names_from-none m first count (λ a from below. none a from (omega arith)),
      none (first + count) (omega arith) (omega arith),
    ) refl

-- the log names the blocks that it expects
pub entry_at-pending : (m : SegmentMemory) (entries : List SummaryEntry) (k : ℕ) → IsLaidOut m → Expects m entries
    → k < length entries → entry_at m (next_address m + k) ≡ slice_get entries k
entry_at-pending m entries k laid e inside =
    let fit = e.fit in let begun = laid.begun in
    let low = log_start-le m.active in
    let first : ℕ = first_of m.active in
    let sum : next_address m + k - first ≡ next_address m - first + k = omega arith in
    entry_at-in m m.active (next_address m + k) (omega arith)
    ∙ ap (λ (n : ℕ). next_entry (expected (has_serials m) (log_block m m.active) n)) sum
    ∙ ap next_entry (expected-entries (has_serials m) (log_block m m.active) (next_address m - first) k entries e.pending
    (omega arith))
    ∙ first-drop entries k
  where
    first-drop : (entries : List SummaryEntry) (k : ℕ) → slice_get (drop k entries) 0 ≡ slice_get entries k
    first-drop entries zero = refl
    first-drop [] (suc k) = refl
    first-drop (entry ∷ entries) (suc k) = first-drop entries k
