-- A segment read block by block gives the entries that the log has: `passed_named`, `passed_summary` and `read_on` for
-- `Reader::pass` and `goes_on`, `named_here` for `name_at`. The reader holds the entries of the last summary that
-- aren't passed yet, or has ended, which is just what `expected` is by induction on the blocks; it has ended where a
-- summary is expected and none stands. The label at address 0 is no block of the log (`label_named`), so the first
-- segment begins one later; another block outside the log would need its own case.
use Rattle.std.proofs.Common.{◌≡◌, ℕ, zero, suc, ◌+◌, ◌-◌, ◌*◌, ◌/◌, ◌<◌, ◌≤◌, Bool, true, false, List, [], ◌∷◌, ◌++◌}
use Rattle.std.proofs.Common.{Option, Some, None, if◌then◌else◌, length, get_or, take, drop, refl, sym, ap, ◌∙◌, inl}
use Rattle.std.proofs.Common.{inr, arith}
use Rattle.std.specs.Prelude.{option_and_then}
use Rattle.std.proofs.lemmas.Bool.{cases_eq}
use Rattle.std.proofs.lemmas.List.{get_or_append_left, get_or-append-add, length-append}
use Rattle.lfs_segments.specs.declared.entry.SummaryEntry.{SummaryEntry}
use Rattle.lfs_segments.specs.declared.summary.Summary.{Summary}
use Rattle.lfs_segments.specs.Entry.{unused}
use Rattle.lfs_segments.specs.Log.{after_block, entry_at, expected, first_of, log_block}
use Rattle.lfs_segments.specs.Memory.{SegmentMemory, block_at, has_serials}
use Rattle.lfs_segments.specs.Reading.{named_by}
use Rattle.lfs_segments.specs.Serial.{entries_in}
use Rattle.lfs_segments.proofs.LogLemmas.{entry_at-in}
use Rattle.lfs_log.proofs.ScanLemmas.{expected_more, expected_none}
use Rattle.lfs_fsck.specs.Names.{AreNames, first_name, name_in}

-- what a reader expects
abbrev pub held : List SummaryEntry → ℕ → ℕ → Bool → Option (List SummaryEntry)
held entries next count ended = if ended then None else Some (drop next (take count entries))

-- it goes on, or has ended
going : (entries : List SummaryEntry) (next count : ℕ) (ended : Bool) → ended ≡ false → held entries next count ended
    ≡ Some (drop next (take count entries))
going entries next count true off = absurd (let bad : true ≡ false = off in cc)
going entries next count false off = refl

-- a block that an entry names is passed
pub named_next : (entries : List SummaryEntry) (next count : ℕ) (ended : Bool) (now : Option (List SummaryEntry))
    → held entries next count ended ≡ now → ended ≡ false → next < count → count ≤ length entries
    → Some (get_or entries next unused ∷ drop (next + 1) (take count entries)) ≡ now
named_next entries next count ended now is off below fits =
    ap (λ (es : List SummaryEntry). Some es) (sym (expected_more entries next count below fits))
    ∙ sym (going entries next count ended off) ∙ is

pub passed_named : (kind : Bool) (entries : List SummaryEntry) (next count : ℕ) (ended : Bool) (block : List ℕ)
    (now : Option (List SummaryEntry))
    → held entries next count ended ≡ now → ended ≡ false → next < count → count ≤ length entries
    → held entries (next + 1) count ended ≡ option_and_then (λ es. after_block kind es block) now
passed_named kind entries next count ended block now is off below fits =
    going entries (next + 1) count ended off
    ∙ ap (λ (o : Option (List SummaryEntry)). option_and_then (λ es. after_block kind es block) o)
    (named_next entries next count ended now is off below fits)

-- behind the last one a summary is read
pub nothing : (entries : List SummaryEntry) (next count : ℕ) (ended : Bool) (now : Option (List SummaryEntry))
    → held entries next count ended ≡ now → ended ≡ false → count ≤ next
    → Some [] ≡ now
nothing entries next count ended now is off past =
    ap (λ (es : List SummaryEntry). Some es) (sym (expected_none entries next count past))
    ∙ sym (going entries next count ended off) ∙ is

pub something : (entries : List SummaryEntry) (next count : ℕ) (ended : Bool) (now : Option (List SummaryEntry))
    → held entries next count ended ≡ now → ended ≡ false
    → next < count → count ≤ length entries → now ≡ Some [] → ⊥
something entries next count ended now is off below fits none =
    let e = named_next entries next count ended now is off below fits ∙ none in cc

pub passed_summary : (kind : Bool) (entries : List SummaryEntry) (next count : ℕ) (ended : Bool) (block : List ℕ)
    (now : Option (List SummaryEntry)) (s : Summary)
    → held entries next count ended ≡ now → ended ≡ false → count ≤ next → Some (named_by s) ≡ entries_in kind block
    → held s.entries 0 s.count ended ≡ option_and_then (λ es. after_block kind es block) now
passed_summary kind entries next count ended block now s is off past read =
    going s.entries 0 s.count ended off ∙ read
    ∙ ap (λ (o : Option (List SummaryEntry)). option_and_then (λ es. after_block kind es block) o)
    (nothing entries next count ended now is off past)

-- at a summary, and behind the end, nothing is named
pub first_none : (now : Option (List SummaryEntry)) → Some [] ≡ now → None ≡ first_name now
first_none now is = ap (λ (o : Option (List SummaryEntry)). first_name o) is

-- the reader of a segment expects what the log expects at the next address
pub read_on : (m : SegmentMemory) (segment address : ℕ) (kind : Bool) (old new : Option (List SummaryEntry))
    (block : List ℕ) → kind ≡ has_serials m → first_of segment ≤ address
    → old ≡ expected (has_serials m) (log_block m segment) (address - first_of segment) → block ≡ block_at m address → new
    ≡ option_and_then (λ es. after_block kind es block) old
    → new ≡ expected (has_serials m) (log_block m segment) (address + 1 - first_of segment)
unfolding expected
read_on m segment address kind old new block same from was at passed =
    let k : ℕ = address - first_of segment in
    let one : address + 1 - first_of segment ≡ suc k = omega arith in
    let here : first_of segment + k ≡ address = omega arith in
    passed
    ∙ ap (λ (s : Bool). option_and_then (λ es. after_block s es block) old) same
    ∙ ap (λ (b : List ℕ). option_and_then (λ es. after_block (has_serials m) es b) old) (at ∙ ap (block_at m) (sym here))
    ∙ ap (λ (o : Option (List SummaryEntry)). option_and_then (λ es. after_block (has_serials m) es
    (log_block m segment k)) o) was
    ∙ ap (expected (has_serials m) (log_block m segment)) (sym one)

-- behind the label, and where a segment has none, the log begins
pub first_below : (segment address : ℕ) → segment * 64 ≤ address → (address ≡ 0 → ⊥) → first_of segment ≤ address
first_below zero address from some = omega arith
first_below (suc segment) address from some = omega arith

-- where a segment begins, a summary is expected
pub read_begins : (m : SegmentMemory) (segment : ℕ) → Some []
    ≡ expected (has_serials m) (log_block m segment) (segment * 64 - first_of segment)
unfolding expected
read_begins m segment = let none : segment * 64 - first_of segment ≡ 0 = omega arith in rw none refl

pub read_first : (m : SegmentMemory) (segment address : ℕ) → address ≡ first_of segment → Some []
    ≡ expected (has_serials m) (log_block m segment) (address - first_of segment)
unfolding expected
read_first m segment address first = let none : address - first_of segment ≡ 0 = omega arith in rw none refl

-- what is named at an address of a segment
pub named_here : (m : SegmentMemory) (segment address : ℕ) (now : Option (List SummaryEntry))
    (name : Option SummaryEntry) → segment * 64 ≤ address → address < segment * 64 + 64
    → now ≡ expected (has_serials m) (log_block m segment) (address - first_of segment) → name ≡ first_name now → name
    ≡ entry_at m address
named_here m segment address now name from below read is =
    let here : address / 64 ≡ segment = omega arith in
    is ∙ ap (λ (o : Option (List SummaryEntry)). first_name o) read ∙ sym (entry_at-in m segment address here)

-- at the label nothing is, and it is no block of the log
pub label_named : (m : SegmentMemory) (segment address : ℕ) (now : Option (List SummaryEntry)) → segment * 64 ≤ address
    → address ≡ 0
    → now ≡ expected (has_serials m) (log_block m segment) (address - first_of segment) → None ≡ entry_at m address
unfolding expected
label_named m segment address now from zero_ read =
    let none : address - first_of segment ≡ 0 = omega arith in
    let here : address / 64 ≡ segment = omega arith in
    let begins : Some [] ≡ expected (has_serials m) (log_block m segment) (address - first_of segment) = rw none refl in
    ap (λ (o : Option (List SummaryEntry)). first_name o) begins ∙ sym (entry_at-in m segment address here)

pub label_read : (m : SegmentMemory) (segment address : ℕ) (now : Option (List SummaryEntry)) → segment * 64 ≤ address
    → address ≡ 0
    → now ≡ expected (has_serials m) (log_block m segment) (address - first_of segment) → now
    ≡ expected (has_serials m) (log_block m segment) (address + 1 - first_of segment)
label_read m segment address now from zero_ read =
    let is_zero : segment ≡ 0 = omega arith in
    let first : first_of segment ≡ 1 = ap first_of is_zero in
    let same : address - first_of segment ≡ address + 1 - first_of segment = omega arith in
    read ∙ ap (expected (has_serials m) (log_block m segment)) same

-- names that are known, and one more
pub no_names : (m : SegmentMemory) (names : List (Option SummaryEntry)) → names ≡ [] → AreNames m 0 names
no_names m names empty = record { long = ap length empty; each = λ a low. absurd (omega arith) }

pub more_names : (m : SegmentMemory) (many : ℕ) (names new : List (Option SummaryEntry)) (name : Option SummaryEntry)
    → AreNames m many names → name ≡ entry_at m many
    → new ≡ names ++ name ∷ [] → AreNames m (many + 1) new
more_names m many names new name were is grown = record {
  long = ap length grown ∙ length-append names (name ∷ []) ∙ omega (arith, were.long);
  each = λ a low. ap (λ xs. name_in xs a) grown ∙ elim (cases_eq a many) [
    | inl here ↦
        let at : a ≡ length names + 0 = omega (arith, were.long) in
        ap (λ k. name_in (names ++ name ∷ []) k) at ∙ get_or-append-add names (name ∷ []) 0 None ∙ is
        ∙ ap (entry_at m) (sym here)
    | inr other ↦ get_or_append_left names (name ∷ []) None a (omega (arith, were.long)) ∙ were.each a (omega arith)
  ];
}
