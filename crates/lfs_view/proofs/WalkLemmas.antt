-- A segment's log, walked block by block: `passed_named`, `passed_summary` and `stands_summary` for `Walk::pass`,
-- `walked_on` for `next_cell`, `cells_more` and `within_more` for `walked`. A walk keeps a summary's entries and how
-- many of their blocks it has passed, which stands for what the log expects (`held`). A block that an entry names takes
-- that entry off the front; behind the last one a summary is read, and its entries are expected; so each block is
-- passed as the log does it (`after_block`), and at the next address both expect the same. In segment 0 the log begins
-- behind the label, at address 1 (`first_below`).
use Rattle.std.proofs.Common.{◌≡◌, ℕ, zero, suc, ◌+◌, ◌-◌, ◌*◌, ◌<◌, ◌≤◌, Bool, true, false, List, [], ◌∷◌, ◌++◌, All}
use Rattle.std.proofs.Common.{Option, Some, None, if◌then◌else◌, length, get_or, take, drop, refl, sym, ap, subst, ◌∙◌}
use Rattle.std.proofs.Common.{arith}
use Rattle.std.specs.Prelude.{option_and_then}
use Rattle.std.proofs.lemmas.List.{drop_all, drop_more, get_or-take, length-take, length-take-le}
use Rattle.std.proofs.lemmas.List.Elements.{All-nil, All-append, All-cons}
use Rattle.lfs_segments.specs.declared.entry.SummaryEntry.{SummaryEntry}
use Rattle.lfs_segments.specs.declared.summary.Summary.{Summary}
use Rattle.lfs_segments.specs.Entry.{unused}
use Rattle.lfs_segments.specs.Log.{after_block, expected, first_of, log_block}
use Rattle.lfs_segments.specs.Memory.{SegmentMemory, block_at, has_serials}
use Rattle.lfs_segments.specs.Reading.{named_by}
use Rattle.lfs_segments.specs.Serial.{entries_in}
use Rattle.lfs_parts.specs.declared.parts.Parts.{Parts}
use Rattle.lfs_view.specs.Cells.{IsIn, begun, cell_at, cells_from, standing_at}
use Rattle.lfs_view.specs.declared.cells.Cell.{Cell}
use Rattle.lfs_view.specs.declared.walk.Standing.TheVariants as standing
use Rattle.lfs_log.proofs.ScanLemmas.{expected_more, expected_none}

-- what a walk expects
abbrev pub held : List SummaryEntry → ℕ → ℕ → Bool → Option (List SummaryEntry)
held entries next count ended = if ended then None else Some (drop next (take count entries))

-- a walk goes on, or has ended
going : (entries : List SummaryEntry) (next count : ℕ) (ended : Bool) → ended ≡ false → held entries next count ended
    ≡ Some (drop next (take count entries))
going entries next count true off = absurd (let bad : true ≡ false = off in cc)
going entries next count false off = refl

-- a block that an entry names is passed
pub passed_named : (kind : Bool) (entries : List SummaryEntry) (next count : ℕ) (ended : Bool) (block : List ℕ)
    (now : Option (List SummaryEntry))
    → held entries next count ended ≡ now → ended ≡ false → next < count → count ≤ length entries
    → held entries (next + 1) count ended ≡ option_and_then (λ es. after_block kind es block) now
passed_named kind entries next count ended block now is off below fits =
    let old : Some (get_or entries next unused ∷ drop (next + 1) (take count entries)) ≡ now =
    ap (λ (es : List SummaryEntry). Some es) (sym (expected_more entries next count below fits))
    ∙ sym (going entries next count ended off) ∙ is in
    going entries (next + 1) count ended off
    ∙ ap (λ (o : Option (List SummaryEntry)). option_and_then (λ es. after_block kind es block) o) old

-- behind the last one a summary is read
nothing : (entries : List SummaryEntry) (next count : ℕ) (ended : Bool) (now : Option (List SummaryEntry))
    → held entries next count ended ≡ now → ended ≡ false → count ≤ next
    → Some [] ≡ now
nothing entries next count ended now is off past =
    ap (λ (es : List SummaryEntry). Some es) (sym (expected_none entries next count past))
    ∙ sym (going entries next count ended off) ∙ is

pub passed_summary : (kind : Bool) (entries : List SummaryEntry) (next count : ℕ) (ended : Bool) (block : List ℕ)
    (now : Option (List SummaryEntry)) (s : Summary)
    → held entries next count ended ≡ now → ended ≡ false → count ≤ next → Some (named_by s) ≡ entries_in kind block
    → held s.entries 0 s.count ended ≡ option_and_then (λ es. after_block kind es block) now
passed_summary kind entries next count ended block now s is off past read =
    going s.entries 0 s.count ended off ∙ read
    ∙ ap (λ (o : Option (List SummaryEntry)). option_and_then (λ es. after_block kind es block) o)
    (nothing entries next count ended now is off past)

pub stands_summary : (kind : Bool) (entries : List SummaryEntry) (next count : ℕ) (ended : Bool) (block : List ℕ)
    (now : Option (List SummaryEntry)) (s : Summary)
    → held entries next count ended ≡ now → ended ≡ false → count ≤ next → Some (named_by s) ≡ entries_in kind block
    → s.count ≤ length s.entries
    → standing.Summary s.count ≡ standing_at kind now block
stands_summary kind entries next count ended block now s is off past read fits =
    ap (λ (n : ℕ). standing.Summary n) (sym (length-take-le s.count s.entries fits))
    ∙ ap (λ (o : Option (List SummaryEntry)). begun o) read
    ∙ ap (λ (o : Option (List SummaryEntry)). standing_at kind o block) (nothing entries next count ended now is off past)

-- the walk of a segment expects what the log expects at the next address
pub walked_on : (m : SegmentMemory) (segment address : ℕ) (kind : Bool) (old new : Option (List SummaryEntry))
    (block : List ℕ) → kind ≡ has_serials m → first_of segment ≤ address
    → old ≡ expected (has_serials m) (log_block m segment) (address - first_of segment) → block ≡ block_at m address → new
    ≡ option_and_then (λ es. after_block kind es block) old
    → new ≡ expected (has_serials m) (log_block m segment) (address + 1 - first_of segment)
unfolding expected
walked_on m segment address kind old new block same from was at passed =
    let k : ℕ = address - first_of segment in
    let one : address + 1 - first_of segment ≡ suc k = omega arith in
    let here : first_of segment + k ≡ address = omega arith in
    passed
    ∙ ap (λ (s : Bool). option_and_then (λ es. after_block s es block) old) same
    ∙ ap (λ (b : List ℕ). option_and_then (λ es. after_block (has_serials m) es b) old) (at ∙ ap (block_at m) (sym here))
    ∙ ap (λ (o : Option (List SummaryEntry)). option_and_then (λ es. after_block (has_serials m) es
    (log_block m segment k)) o) was
    ∙ ap (expected (has_serials m) (log_block m segment)) (sym one)

-- behind the label, and where a segment has none, the log begins
pub first_below : (segment address : ℕ) → segment * 64 ≤ address → (address ≡ 0 → ⊥) → first_of segment ≤ address
first_below zero address from some = omega arith
first_below (suc segment) address from some = omega arith

-- where a segment begins, a summary is expected
pub walk_begins : (m : SegmentMemory) (segment : ℕ) → Some []
    ≡ expected (has_serials m) (log_block m segment) (segment * 64 - first_of segment)
unfolding expected
walk_begins m segment = let none : segment * 64 - first_of segment ≡ 0 = omega arith in rw none refl

-- no cell yet, and one more
pub cells_none : (p : Parts) (first : ℕ) (cells : List Cell) → cells ≡ [] → cells ≡ cells_from p first (first - first)
unfolding cells_from
cells_none p first cells empty = let none : first - first ≡ 0 = omega arith in rw (none, empty) refl

pub cells_more : (p : Parts) (first address : ℕ) (cells new : List Cell) (cell : Cell) → first ≤ address → cells
    ≡ cells_from p first (address - first)
    → cell ≡ cell_at p address → new ≡ cells ++ cell ∷ [] → new ≡ cells_from p first (address + 1 - first)
unfolding cells_from
cells_more p first address cells new cell from so_far is grown =
    let k : ℕ = address - first in
    let one : address + 1 - first ≡ suc k = omega arith in
    let here : address ≡ first + k = omega arith in
    grown
    ∙ ap (λ (cs : List Cell). cs ++ cell ∷ []) so_far
    ∙ ap (λ (c : Cell). cells_from p first k ++ c ∷ []) (is ∙ ap (cell_at p) here)
    ∙ ap (cells_from p first) (sym one)

-- they lie in the volume
pub within_none : (p : Parts) (cells : List Cell) → cells ≡ [] → All (IsIn p) cells
within_none p cells empty = subst (All (IsIn p)) (sym empty) (All-nil (IsIn p))

pub within_more : (p : Parts) (cells new : List Cell) (cell : Cell) → All (IsIn p) cells → IsIn p cell → new ≡ cells
    ++ cell ∷ [] → All (IsIn p) new
within_more p cells new cell all one grown =
    subst (All (IsIn p)) (sym grown) (All-append (IsIn p) cells (cell ∷ []) all
    (All-cons (IsIn p) cell [] one (All-nil (IsIn p))))
