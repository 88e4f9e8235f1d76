-- The logs of a memory, read block by block: what `step` makes of how far the reading is, in each of its cases, for
-- `Reader::step`; and that each partial segment that begins is whole (`whole-partials`).
use Rattle.std.proofs.Common.{◌≡◌, ℕ, zero, suc, ◌+◌, ◌<◌, ◌≤◌, Bool, true, false, ◌&&◌, not, nat_lt, List, [], ◌∷◌}
use Rattle.std.proofs.Common.{◌++◌, Option, Some, None, All, if◌then◌else◌, option_map, length, take, get_or, refl, sym}
use Rattle.std.proofs.Common.{ap, ◌∙◌, arith}
use Rattle.std.proofs.lemmas.Bool.{le-ltb, lt-ltb}
use Rattle.std.proofs.lemmas.List.{get_or-take, length-take}
use Rattle.std.proofs.lemmas.List.Elements.{All-append}
use Rattle.std.proofs.lemmas.Option.{none-some}
use Rattle.lfs_segments.specs.declared.entry.SummaryEntry.{SummaryEntry}
use Rattle.lfs_segments.specs.Entry.{unused}
use Rattle.lfs_segments.specs.Memory.{SegmentMemory}
use Rattle.lfs_segments.specs.Serial.{Told}
use Rattle.lfs_recovery.specs.declared.places.PartialSegment.{PartialSegment}
use Rattle.lfs_recovery.specs.Course.{Course, at_inodes, begins_log, begun, course, entered, idle, listed, met, partial_of}
use Rattle.lfs_recovery.specs.Course.{partials, start, step, turned}
use Rattle.lfs_recovery.specs.Whole.{IsWhole, is_inodes, whole_at}
use Rattle.lfs_recovery.proofs.WholeLemmas.{whole_at-whole}

pub met-ended : (m : SegmentMemory) (address : ℕ) (c : Course) → c.ended ≡ true → (begun m address c ≡ None)
    × (step m address c ≡ c)
unfolding begun met step
met-ended m address c e = (rw e refl, rw e refl)

-- a block of the partial segment goes by
pub met-passes : (m : SegmentMemory) (address : ℕ) (c : Course) → c.ended ≡ false → c.passed < length c.entries
    → (begun m address c ≡ None) × (step m address c ≡ record c { passed = c.passed + 1 })
unfolding begun met step
met-passes m address c e more =
    let less : nat_lt c.passed (length c.entries) ≡ true = lt-ltb _ _ more in
    (rw (e, less) refl, rw (e, less) refl)

-- a partial segment is to begin
pub met-begins : (m : SegmentMemory) (address : ℕ) (c : Course) (found : Option Told) → c.ended ≡ false
    → length c.entries ≤ c.passed → found ≡ whole_at m address c.serial
    → (begun m address c ≡ option_map (partial_of address) found) × (step m address c ≡ turned c found)
unfolding begun met step
met-begins m address c found e done is =
    let no : nat_lt c.passed (length c.entries) ≡ false = le-ltb _ _ done in
    (rw (e, no) (ap (option_map (partial_of address)) (sym is)), rw (e, no) (ap (turned c) (sym is)))

met_if : (ended less : Bool) (o : Option Told) (t : Told) → (if ended then None else (if less then None else o))
    ≡ Some t → o ≡ Some t
met_if true less o t e = absurd (none-some t e)
met_if false true o t e = absurd (none-some t e)
met_if false false o t e = e

all_none : (P : PartialSegment → Type 0) → All P []
all_none P k d below = absurd (omega arith)

all_one : (P : PartialSegment → Type 0) (p : PartialSegment) → P p → All P (p ∷ [])
all_one P p here zero d below = here
all_one P p here (suc k) d below = absurd (omega arith)

all_listed : (m : SegmentMemory) (address above : ℕ) (met : Option Told) → ((t : Told) → met ≡ Some t
    → whole_at m address above ≡ Some t) → All (IsWhole m) (listed (option_map (partial_of address) met))
all_listed m address above None found = all_none (IsWhole m)
all_listed m address above (Some t) found =
    all_one (IsWhole m) (partial_of address t) (whole_at-whole m address above t (found t refl))

-- each partial segment that begins is whole
pub whole-partials : (m : SegmentMemory) (address : ℕ) → All (IsWhole m) (partials m address)
unfolding partials begun met
whole-partials m zero = all_none (IsWhole m)
whole-partials m (suc address) =
    let c = course m address in
    All-append (IsWhole m) (partials m address) _ (whole-partials m address)
    (all_listed m address c.serial (met m address c)
    (λ t e. met_if c.ended (nat_lt c.passed (length c.entries)) (whole_at m address c.serial) t e))

pub course-start : (m : SegmentMemory) → entered 0 idle ≡ course m 0
unfolding course
course-start m = refl

pub course-next : (m : SegmentMemory) (address : ℕ) → entered (address + 1) (step m address (course m address))
    ≡ course m (address + 1)
unfolding course
course-next m address = let one : address + 1 ≡ suc address = omega arith in rw one refl

-- one block more
pub partials-next : (m : SegmentMemory) (address : ℕ) (list : List PartialSegment) (found : Option PartialSegment)
    → list ≡ partials m address → found ≡ begun m address (course m address)
    → list ++ listed found ≡ partials m (address + 1)
unfolding partials
partials-next m address list found before here =
    let one : address + 1 ≡ suc address = omega arith in
    ap (λ (xs : List PartialSegment). xs ++ listed found) before
    ∙ ap (λ (o : Option PartialSegment). partials m address ++ listed o) here ∙ ap (partials m) (sym one)

pub entered-start : (address : ℕ) (c : Course) → begins_log address ≡ true → start ≡ entered address c
unfolding entered
entered-start address c e = rw e refl

pub entered-other : (address : ℕ) (c : Course) → begins_log address ≡ false → c ≡ entered address c
unfolding entered
entered-other address c e = rw e refl

-- what a reader holds: the entries of a summary up to its count
abbrev pub held : ℕ → List SummaryEntry → ℕ → ℕ → Bool → Course
held serial entries count passed ended = record { serial = serial; entries = take count entries; passed = passed; ended = ended }

length-held : (entries : List SummaryEntry) (count : ℕ) → length entries ≡ 40 → count ≤ 40 → length (take count entries) ≡ count
length-held entries count whole few = simp length-take (omega arith)

pub at_inodes-ended : (c : Course) → c.ended ≡ true → at_inodes c ≡ false
unfolding at_inodes
at_inodes-ended c e = rw e refl

pub at_inodes-past : (serial : ℕ) (entries : List SummaryEntry) (count passed : ℕ) (ended : Bool) → length entries ≡ 40
    → count ≤ 40 → count ≤ passed → at_inodes (held serial entries count passed ended) ≡ false
unfolding at_inodes
at_inodes-past serial entries count passed ended whole few past =
    let long = length-held entries count whole few in
    let no : nat_lt passed (length (take count entries)) ≡ false = le-ltb _ _ (omega (arith, long)) in
    at_end ended (is_inodes (get_or (take count entries) passed unused).block) no
  where
    at_end : (ended inodes : Bool) {less : Bool} → less ≡ false → (not ended && (less && inodes)) ≡ false
    at_end true inodes e = refl
    at_end false inodes e = rw e refl

pub at_inodes-here : (serial : ℕ) (entries : List SummaryEntry) (count passed : ℕ) (ended : Bool) → ended ≡ false
    → length entries ≡ 40 → count ≤ 40 → passed < count
    → at_inodes (held serial entries count passed ended) ≡ is_inodes (get_or entries passed unused).block
unfolding at_inodes
at_inodes-here serial entries count passed ended e whole few inside =
    let long = length-held entries count whole few in
    let yes : nat_lt passed (length (take count entries)) ≡ true = lt-ltb _ _ (omega (arith, long)) in
    rw (e, yes) (ap (λ (e : SummaryEntry). is_inodes e.block) (get_or-take count entries passed unused inside))

pub held-passes : (m : SegmentMemory) (address serial : ℕ) (entries : List SummaryEntry) (count passed : ℕ) (ended : Bool)
    → ended ≡ false → length entries ≡ 40 → count ≤ 40 → passed < count
    → (begun m address (held serial entries count passed ended) ≡ None)
    × (step m address (held serial entries count passed ended) ≡ held serial entries count (passed + 1) ended)
held-passes m address serial entries count passed ended e whole few inside =
    met-passes m address (held serial entries count passed ended) e
    (let long = length-held entries count whole few in omega (arith, long))

pub held-begins : (m : SegmentMemory) (address serial : ℕ) (entries : List SummaryEntry) (count passed : ℕ) (ended : Bool)
    (found : Option Told) → ended ≡ false → length entries ≡ 40 → count ≤ 40 → count ≤ passed
    → found ≡ whole_at m address serial
    → (begun m address (held serial entries count passed ended) ≡ option_map (partial_of address) found)
    × (step m address (held serial entries count passed ended) ≡ turned (held serial entries count passed ended) found)
held-begins m address serial entries count passed ended found e whole few past is =
    met-begins m address (held serial entries count passed ended) found e
    (let long = length-held entries count whole few in omega (arith, long)) is
