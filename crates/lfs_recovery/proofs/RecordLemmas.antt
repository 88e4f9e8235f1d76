-- What the reader meets in inode blocks are the records of the logs, and no others. While blocks of a partial segment go
-- by, the reading has its entries (`reading`), so what it meets is a record (`records-are`); and each block of a partial
-- segment that began does go by (`held_at`), so each record is met (`records-all`). The records come in the order of
-- their places (`ranked_records`), so what is noted in the end is the newest by serial and place (`newest_is`).
use Rattle.std.proofs.Common.{◌≡◌, ◌≢◌, ℕ, zero, suc, ◌+◌, ◌-◌, ◌*◌, ◌/◌, ◌<◌, ◌≤◌, Bool, true, false, ◌&&◌, ◌==◌, nat_lt, not}
use Rattle.std.proofs.Common.{List, [], ◌∷◌, ◌++◌, Option, Some, None, option_map, if◌then◌else◌, length, get_or, refl}
use Rattle.std.proofs.Common.{sym, ap, subst, ◌∙◌, inl, inr, ⊎_elim, append-nil, append_assoc, arith}
use Rattle.std.specs.List.{Contains}
use Rattle.std.proofs.lemmas.Bool.{cases_Bool, cases_lt, le-ltb, lt-ltb, ltb-false, ltb-true}
use Rattle.std.proofs.lemmas.Bool.Decides.{eqb_tells}
use Rattle.std.proofs.lemmas.List.Elements.{Contains-append_cases, Contains-append_left, Contains-append_right}
use Rattle.std.proofs.lemmas.List.Elements.{Contains-push, Contains-push_cases}
use Rattle.std.proofs.lemmas.Option.{none-some, same_Some}
use Rattle.lfs_inodes.specs.Reading.{Fields, fields_in}
use Rattle.lfs_inodes.specs.Slots.{slot_of}
use Rattle.lfs_segments.specs.declared.entry.LogicalBlock.{LogicalBlock}
use Rattle.lfs_segments.specs.declared.entry.LogicalBlock.TheVariants.{Data, Single, Double, Child, Inodes}
use Rattle.lfs_segments.specs.declared.entry.SummaryEntry.{SummaryEntry}
use Rattle.lfs_segments.specs.Entry.{unused}
use Rattle.lfs_segments.specs.Memory.{SegmentMemory, block_at, log_start}
use Rattle.lfs_segments.specs.Serial.{Told, told_in}
use Rattle.lfs_segments.proofs.TestLemmas.{both}
use Rattle.lfs_recovery.specs.declared.places.PartialSegment.{PartialSegment}
use Rattle.lfs_recovery.specs.declared.places.RecordPlace.{RecordPlace}
use Rattle.lfs_recovery.specs.Course.{Course, at_inodes, begins_log, begun, course, end_of, listed, met, partial_of, partials}
use Rattle.lfs_recovery.specs.Course.{step, turned}
use Rattle.lfs_recovery.specs.Newest.{IsNewest, IsNoNewer, IsRecord, slot_place}
use Rattle.lfs_recovery.specs.Noted.{newer, newest, newest_from, place_of, places_in, records, records_at}
use Rattle.lfs_recovery.specs.Whole.{IsWhole, is_inodes, is_next, whole_at}
use Rattle.lfs_recovery.proofs.CourseLemmas.{met-begins, met-ended, met-passes}
use Rattle.lfs_recovery.proofs.LogLemmas.{begins_log-not, course-begins, course-goes, course-zero, logged-partials}
use Rattle.lfs_recovery.proofs.LogLemmas.{map_some, partials-logged, partials-one, whole_inside}
use Rattle.lfs_recovery.proofs.NewestLemmas.{newest_from-append, newest_from-one, note_at}
use Rattle.lfs_recovery.proofs.WholeLemmas.{told_if-some, whole_at-whole}

-- ---- lists of one or none

listed_there : {A : Type 0} (o : Option A) (a : A) → Contains (listed o) a → o ≡ Some a
listed_there None a there = let below = there.1 in absurd (omega arith)
listed_there (Some b) a (zero, below, is) = ap Some is
listed_there (Some b) a (suc k, below, is) = absurd (omega arith)

there_listed : {A : Type 0} (o : Option A) (a : A) → o ≡ Some a → Contains (listed o) a
there_listed None a e = absurd (none-some a e)
there_listed (Some b) a e = (zero, omega arith, same_Some b a e)

if_there : {A : Type 0} (test : Bool) (xs : List A) (a : A) → Contains (if test then xs else []) a
    → (test ≡ true) × Contains xs a
if_there true xs a there = (refl, there)
if_there false xs a there = let below = there.1 in absurd (omega arith)

-- ---- partial segments and records before an address

partials-later : (m : SegmentMemory) (address n : ℕ) (p : PartialSegment) → Contains (partials m address) p
    → Contains (partials m (address + n)) p
partials-later m address zero p there =
    let at : address ≡ address + 0 = omega arith in
    subst (λ (a : ℕ). Contains (partials m a) p) at there
partials-later m address (suc n) p there =
    let at : address + n + 1 ≡ address + suc n = omega arith in
    subst (λ (a : ℕ). Contains (partials m a) p) at
    (subst (λ (xs : List PartialSegment). Contains xs p) (sym (partials-one m (address + n)))
    (Contains-append_left (partials m (address + n)) _ p (partials-later m address n p there)))

partials-from : (m : SegmentMemory) (address : ℕ) (p : PartialSegment) → Contains (partials m address) p
    → (b : ℕ) × ((b < address) × (begun m b (course m b) ≡ Some p))
unfolding partials
partials-from m zero p there = let below = there.1 in absurd (omega arith)
partials-from m (suc address) p there = ⊎_elim
    (λ (before : Contains (partials m address) p).
    let w = partials-from m address p before in let below = w.1.0 in (w.0, (omega arith, w.1.1)))
    (λ (here : Contains (listed (begun m address (course m address))) p).
    (address, (omega arith, listed_there (begun m address (course m address)) p here)))
    (Contains-append_cases (partials m address) (listed (begun m address (course m address))) p there)

records-from : (m : SegmentMemory) (address : ℕ) (r : RecordPlace) → Contains (records m address) r
    → (b : ℕ) × ((b < address) × Contains (records_at m b (course m b)) r)
unfolding records
records-from m zero r there = let below = there.1 in absurd (omega arith)
records-from m (suc address) r there = ⊎_elim
    (λ (before : Contains (records m address) r).
    let w = records-from m address r before in let below = w.1.0 in (w.0, (omega arith, w.1.1)))
    (λ (here : Contains (records_at m address (course m address)) r). (address, (omega arith, here)))
    (Contains-append_cases (records m address) (records_at m address (course m address)) r there)

records-with : (m : SegmentMemory) (address b : ℕ) (r : RecordPlace) → b < address
    → Contains (records_at m b (course m b)) r → Contains (records m address) r
unfolding records
records-with m zero b r below there = absurd (omega arith)
records-with m (suc address) b r below there = ⊎_elim
    (λ (lt : b < address). Contains-append_left (records m address) (records_at m address (course m address)) r
    (records-with m address b r lt there))
    (λ (ge : address ≤ b). let at : b ≡ address = omega arith in
    Contains-append_right (records m address) (records_at m address (course m address)) r
    (subst (λ (a : ℕ). Contains (records_at m a (course m a)) r) at there))
    (cases_lt b address)

-- ---- records of an inode block

record IsPlaceIn (serial address : ℕ) (block : List ℕ) (n : ℕ) (r : RecordPlace) : Type 0 where
  slot : ℕ
  below : slot < n
  fields : Fields
  read : fields_in (slot_of block slot) ≡ Some fields
  is : place_of serial address slot fields ≡ r

places-from : (serial address : ℕ) (block : List ℕ) (n : ℕ) (r : RecordPlace)
    → Contains (places_in serial address block n) r → IsPlaceIn serial address block n r
unfolding places_in
places-from serial address block zero r there = let below = there.1 in absurd (omega arith)
places-from serial address block (suc n) r there = ⊎_elim
    (λ (before : Contains (places_in serial address block n) r).
    let w = places-from serial address block n r before in
    let below = w.below in
    record { slot = w.slot; below = omega arith; fields = w.fields; read = w.read; is = w.is })
    (λ (here : Contains (listed (option_map (place_of serial address n) (fields_in (slot_of block n)))) r).
    let w = map_some (place_of serial address n) (fields_in (slot_of block n)) r
    (listed_there (option_map (place_of serial address n) (fields_in (slot_of block n))) r here) in
    record { slot = n; below = omega arith; fields = w.0; read = w.1.0; is = w.1.1 })
    (Contains-append_cases (places_in serial address block n) _ r there)

places-with : (serial address : ℕ) (block : List ℕ) (n slot : ℕ) (f : Fields) → slot < n
    → fields_in (slot_of block slot) ≡ Some f
    → Contains (places_in serial address block n) (place_of serial address slot f)
unfolding places_in
places-with serial address block zero slot f below read = absurd (omega arith)
places-with serial address block (suc n) slot f below read = ⊎_elim
    (λ (lt : slot < n). Contains-append_left (places_in serial address block n) _ (place_of serial address slot f)
    (places-with serial address block n slot f lt read))
    (λ (ge : n ≤ slot). let at : slot ≡ n = omega arith in
    Contains-append_right (places_in serial address block n)
    (listed (option_map (place_of serial address n) (fields_in (slot_of block n)))) (place_of serial address slot f)
    (there_listed (option_map (place_of serial address n) (fields_in (slot_of block n))) (place_of serial address slot f)
    (subst (λ (k : ℕ). option_map (place_of serial address k) (fields_in (slot_of block k))
    ≡ Some (place_of serial address slot f)) at (ap (option_map (place_of serial address slot)) read))))
    (cases_lt slot n)

-- ---- what is met is a record

-- blocks of a partial segment go by
record IsReading (m : SegmentMemory) (address : ℕ) (c : Course) : Type 0 where
  segment : PartialSegment
  there : Contains (partials m address) segment
  told : Told
  spelled : told_in (block_at m segment.address) ≡ Some told
  serial : c.serial ≡ segment.serial
  entries : c.entries ≡ told.entries
  counted : segment.count ≡ length told.entries
  at : address ≡ segment.address + 1 + c.passed

-- while a reading has blocks left, they are those of a partial segment
abbrev Reads : SegmentMemory → ℕ → Course → Type 0
Reads m address c = c.ended ≡ false → c.passed < length c.entries → IsReading m address c

contradicts : (b : Bool) → b ≡ true → b ≡ false → ⊥
contradicts true e f = absurd (cc)
contradicts false e f = absurd (cc)

found_told : (m : SegmentMemory) (address above : ℕ) (t : Told) → whole_at m address above ≡ Some t
    → told_in (block_at m address) ≡ Some t
unfolding whole_at
found_told m address above t e = (told_if-some (is_next m address above) (told_in (block_at m address)) t e).0

reads_begins : (m : SegmentMemory) (address : ℕ) (found : Option Told) → (course m address).ended ≡ false
    → length (course m address).entries ≤ (course m address).passed
    → found ≡ whole_at m address (course m address).serial
    → Reads m (address + 1) (turned (course m address) found)
reads_begins m address None open_ done e = λ ended more. absurd (cc)
reads_begins m address (Some t) open_ done e = λ ended more.
    let c = course m address in
    let p : PartialSegment = partial_of address t in
    let here = met-begins m address c (Some t) open_ done e in
    record {
      segment = p;
      there = subst (λ (xs : List PartialSegment). Contains xs p) (sym (partials-one m address))
          (Contains-append_right (partials m address) (listed (begun m address c)) p
          (there_listed (begun m address c) p here.0));
      told = t;
      spelled = found_told m address c.serial t (sym e);
      serial = refl;
      entries = refl;
      counted = refl;
      at = omega arith;
    }

reads_passes : (m : SegmentMemory) (address : ℕ) (c : Course) → IsReading m address c
    → IsReading m (address + 1) (record c { passed = c.passed + 1 })
reads_passes m address c r = let at = r.at in record {
  segment = r.segment;
  there = partials-later m address 1 r.segment r.there;
  told = r.told;
  spelled = r.spelled;
  serial = r.serial;
  entries = r.entries;
  counted = r.counted;
  at = omega arith;
}

reads_step : (m : SegmentMemory) (address : ℕ) → Reads m address (course m address)
    → Reads m (address + 1) (step m address (course m address))
reads_step m address reads =
    let c = course m address in
    ⊎_elim
    (λ (ended : c.ended ≡ true). subst (Reads m (address + 1)) (sym (met-ended m address c ended).1)
    (λ open_ more. absurd (contradicts c.ended ended open_)))
    (λ (open_ : c.ended ≡ false). ⊎_elim
    (λ (more : c.passed < length c.entries).
    subst (Reads m (address + 1)) (sym (met-passes m address c open_ more).1)
    (λ _ left. reads_passes m address c (reads open_ more)))
    (λ (done : length c.entries ≤ c.passed).
    subst (Reads m (address + 1)) (sym (met-begins m address c (whole_at m address c.serial) open_ done refl).1)
    (reads_begins m address (whole_at m address c.serial) open_ done refl))
    (cases_lt c.passed (length c.entries)))
    (cases_Bool c.ended)

reading : (m : SegmentMemory) (address : ℕ) → Reads m address (course m address)
reading m zero = subst (Reads m 0) (sym (course-zero m)) (λ open_ more. absurd (cc))
reading m (suc address) =
    let one : address + 1 ≡ suc address = omega arith in
    subst (λ (a : ℕ). Reads m a (course m a)) one (⊎_elim
    (λ (begins : begins_log (address + 1) ≡ true).
    subst (Reads m (address + 1)) (sym (course-begins m (address + 1) begins)) (λ open_ more. absurd (omega arith)))
    (λ (goes : begins_log (address + 1) ≡ false).
    subst (Reads m (address + 1)) (sym (course-goes m address goes)) (reads_step m address (reading m address)))
    (cases_Bool (begins_log (address + 1))))

inodes_is : (b : LogicalBlock) → is_inodes b ≡ true → b ≡ Inodes
inodes_is (Data index) e = absurd (cc)
inodes_is Single e = absurd (cc)
inodes_is Double e = absurd (cc)
inodes_is (Child index) e = absurd (cc)
inodes_is Inodes e = refl

record IsAtInodes (c : Course) : Type 0 where
  open_ : c.ended ≡ false
  more : c.passed < length c.entries
  inodes : (get_or c.entries c.passed unused).block ≡ Inodes

not_true : (b : Bool) → not b ≡ true → b ≡ false
not_true true e = absurd (cc)
not_true false e = refl

at_inodes-is : (c : Course) → at_inodes c ≡ true → IsAtInodes c
unfolding at_inodes
at_inodes-is c e =
    let inodes = is_inodes (get_or c.entries c.passed unused).block in
    let a = both (not c.ended) (nat_lt c.passed (length c.entries) && inodes) e in
    let b = both (nat_lt c.passed (length c.entries)) inodes a.1 in
    record {
      open_ = not_true c.ended a.0;
      more = ltb-true _ _ b.0;
      inodes = inodes_is (get_or c.entries c.passed unused).block b.1;
    }

records_at-from : (m : SegmentMemory) (address : ℕ) (c : Course) (r : RecordPlace) → Contains (records_at m address c) r
    → IsAtInodes c × IsPlaceIn c.serial address (block_at m address) 4 r
unfolding records_at
records_at-from m address c r there =
    let w = if_there (at_inodes c) (places_in c.serial address (block_at m address) 4) r there in
    (at_inodes-is c w.0, places-from c.serial address (block_at m address) 4 r w.1)

-- what is met is a record of a log
pub records-are : (m : SegmentMemory) (r : RecordPlace) → Contains (records m (end_of m)) r → IsRecord m r
records-are m r there =
    let w = records-from m (end_of m) r there in
    let b = w.0 in
    let c = course m b in
    let found = records_at-from m b c r w.1.1 in
    let here = found.0 in
    let place = found.1 in
    let more = here.more in
    let below = w.1.0 in
    let reads = reading m b here.open_ more in
    let counted = reads.counted in
    let as_long : length c.entries ≡ length reads.told.entries = ap length reads.entries in
    let at = reads.at in
    let address : b ≡ r.address = ap (λ (s : RecordPlace). s.address) place.is in
    let slot : place.slot ≡ r.slot = ap (λ (s : RecordPlace). s.slot) place.is in
    let slot_below = place.below in
    let later : b + (end_of m - b) ≡ end_of m = omega arith in
    record {
      segment = reads.segment;
      logged = partials-logged m reads.segment
          (subst (λ (a : ℕ). Contains (partials m a) reads.segment) later
          (partials-later m b (end_of m - b) reads.segment reads.there));
      told = reads.told;
      spelled = reads.spelled;
      entry = c.passed;
      named = omega arith;
      inodes = ap (λ (es : List SummaryEntry). (get_or es c.passed unused).block) (sym reads.entries) ∙ here.inodes;
      serial = sym (ap (λ (s : RecordPlace). s.serial) place.is) ∙ reads.serial;
      address = omega arith;
      slot = omega arith;
      fields = place.fields;
      read = ap (λ (a : ℕ). fields_in (slot_of (block_at m a) r.slot)) (sym address)
          ∙ ap (λ (k : ℕ). fields_in (slot_of (block_at m b) k)) (sym slot) ∙ place.read;
      number = sym (ap (λ (s : RecordPlace). s.number) place.is);
      version = sym (ap (λ (s : RecordPlace). s.version) place.is);
    }

-- ---- each record is met

-- a partial segment began
record HasBegun (m : SegmentMemory) (address : ℕ) (c : Course) (p : PartialSegment) : Type 0 where
  told : Told
  open_ : c.ended ≡ false
  done : length c.entries ≤ c.passed
  found : whole_at m address c.serial ≡ Some told
  is : partial_of address told ≡ p

met_parts : (ended less : Bool) (o : Option Told) (t : Told) → (if ended then None else (if less then None else o)) ≡ Some t
    → (ended ≡ false) × ((less ≡ false) × (o ≡ Some t))
met_parts true less o t e = absurd (none-some t e)
met_parts false true o t e = absurd (none-some t e)
met_parts false false o t e = (refl, (refl, e))

has_begun : (m : SegmentMemory) (address : ℕ) (c : Course) (p : PartialSegment) → begun m address c ≡ Some p
    → HasBegun m address c p
unfolding begun met
has_begun m address c p e =
    let w = map_some (partial_of address) (met m address c) p e in
    let parts = met_parts c.ended (nat_lt c.passed (length c.entries)) (whole_at m address c.serial) w.0 w.1.0 in
    record {
      told = w.0;
      open_ = parts.0;
      done = ltb-false _ _ parts.1.0;
      found = parts.1.1;
      is = w.1.1;
    }

-- so many blocks of it went by
abbrev gone : Told → ℕ → Course
gone t k = record { serial = t.serial; entries = t.entries; passed = k; ended = false }

behind_place : (segment address k : ℕ) → segment * 64 ≤ address → 1 ≤ address
    → segment * 64 + log_start segment < address + 1 + k
behind_place zero address k low some = omega arith
behind_place (suc segment) address k low some = omega arith

begun-some : (m : SegmentMemory) (address : ℕ) (p : PartialSegment) → HasBegun m address (course m address) p → 1 ≤ address
begun-some m zero p b =
    absurd (contradicts (course m 0).ended (ap (λ (d : Course). d.ended) (course-zero m)) b.open_)
begun-some m (suc address) p b = omega arith

-- a partial segment that began ends in its segment, and no log begins behind its summary
record IsQuiet (m : SegmentMemory) (address : ℕ) (p : PartialSegment) : Type 0 where
  at : address ≡ p.address
  none : (k : ℕ) → k < p.count → begins_log (address + 1 + k) ≡ false
  within : address < end_of m → address + p.count < end_of m

quiet : (m : SegmentMemory) (address : ℕ) (p : PartialSegment) → HasBegun m address (course m address) p
    → IsQuiet m address p
quiet m address p b =
    let whole : IsWhole m p =
    subst (IsWhole m) b.is (whole_at-whole m address (course m address).serial b.told b.found) in
    let at : address ≡ p.address = ap (λ (q : PartialSegment). q.address) b.is in
    let segment : ℕ = address / 64 in
    let low : segment * 64 ≤ address = omega arith in
    let high : address < (segment + 1) * 64 = omega arith in
    let inside = whole_inside m segment p whole (omega arith) (omega arith) in
    record {
      at = at;
      none = λ k below. begins_log-not segment (address + 1 + k)
          (behind_place segment address k low (begun-some m address p b)) (omega arith);
      within = λ below. let in_volume : segment < m.segments = omega arith in omega arith;
    }

-- its blocks go by
held_at : (m : SegmentMemory) (address : ℕ) (p : PartialSegment) (b : HasBegun m address (course m address) p) (k : ℕ)
    → k < p.count → course m (address + 1 + k) ≡ gone b.told k
held_at m address p b zero below =
    let c = course m address in
    let at : address + 1 + 0 ≡ address + 1 = omega arith in
    ap (course m) at
    ∙ course-goes m address (ap begins_log (sym at) ∙ (quiet m address p b).none 0 below)
    ∙ (met-begins m address c (Some b.told) b.open_ b.done (sym b.found)).1
held_at m address p b (suc k) below =
    let at : address + 1 + suc k ≡ address + 1 + k + 1 = omega arith in
    let before = held_at m address p b k (omega arith) in
    let counted : length b.told.entries ≡ p.count = ap (λ (q : PartialSegment). q.count) b.is in
    let one : k + 1 ≡ suc k = omega arith in
    ap (course m) at
    ∙ course-goes m (address + 1 + k) (ap begins_log (sym at) ∙ (quiet m address p b).none (suc k) below)
    ∙ ap (step m (address + 1 + k)) before
    ∙ (met-passes m (address + 1 + k) (gone b.told k) refl (omega arith)).1
    ∙ ap (gone b.told) one

at_inodes-gone : (t : Told) (k : ℕ) → k < length t.entries → (get_or t.entries k unused).block ≡ Inodes
    → at_inodes (gone t k) ≡ true
unfolding at_inodes
at_inodes-gone t k below inodes =
    let less : nat_lt k (length t.entries) ≡ true = lt-ltb _ _ below in
    rw (less, inodes) refl

-- a record of a log is met
pub records-all : (m : SegmentMemory) (r : RecordPlace) → IsRecord m r → Contains (records m (end_of m)) r
unfolding records_at
records-all m r is =
    let p = is.segment in
    let w = partials-from m (end_of m) p (logged-partials m p is.logged) in
    let a = w.0 in
    let b = has_begun m a (course m a) p w.1.1 in
    let q = quiet m a p b in
    let told : b.told ≡ is.told = same_Some b.told is.told
    (sym (found_told m a (course m a).serial b.told b.found) ∙ ap (λ (n : ℕ). told_in (block_at m n)) q.at ∙ is.spelled) in
    let counted : length b.told.entries ≡ p.count = ap (λ (s : PartialSegment). s.count) b.is in
    let serial : b.told.serial ≡ p.serial = ap (λ (s : PartialSegment). s.serial) b.is in
    let k = is.entry in
    let named = is.named in
    let spot : a + 1 + k ≡ r.address = ap (λ (n : ℕ). n + 1 + k) q.at ∙ sym is.address in
    let here : course m (a + 1 + k) ≡ gone b.told k = held_at m a p b k named in
    let inodes : (get_or b.told.entries k unused).block ≡ Inodes =
    ap (λ (t : Told). (get_or t.entries k unused).block) told ∙ is.inodes in
    let test : at_inodes (gone b.told k) ≡ true = at_inodes-gone b.told k (omega arith) inodes in
    let read : fields_in (slot_of (block_at m (a + 1 + k)) r.slot) ≡ Some is.fields =
    ap (λ (n : ℕ). fields_in (slot_of (block_at m n) r.slot)) spot ∙ is.read in
    let there = places-with b.told.serial (a + 1 + k) (block_at m (a + 1 + k)) 4 r.slot is.fields is.slot read in
    let found : records_at m (a + 1 + k) (gone b.told k)
    ≡ places_in b.told.serial (a + 1 + k) (block_at m (a + 1 + k)) 4 = rw test refl in
    let same : place_of b.told.serial (a + 1 + k) r.slot is.fields ≡ r = λ i. record {
      serial = (serial ∙ sym is.serial) i;
      number = sym is.number i;
      version = sym is.version i;
      address = spot i;
      slot = r.slot;
    } in
    let within = q.within w.1.0 in
    records-with m (end_of m) (a + 1 + k) r (omega arith)
    (subst (λ (c : Course). Contains (records_at m (a + 1 + k) c) r) (sym here)
    (subst (λ (xs : List RecordPlace). Contains xs r) (sym found)
    (subst (Contains (places_in b.told.serial (a + 1 + k) (block_at m (a + 1 + k)) 4)) same there)))

-- ---- the newest

-- a record is no newer than what is noted
abbrev IsTop : RecordPlace → Option RecordPlace → Type 0
IsTop r None = ⊥
IsTop r (Some s) = IsNoNewer r s

-- records that stand below a place, and the newest of a number among them
record IsRanked (n : ℕ) (noted : Option RecordPlace) (rs : List RecordPlace) (bound : ℕ) : Type 0 where
  low : (r : RecordPlace) → Contains rs r → slot_place r < bound
  from : (s : RecordPlace) → noted ≡ Some s → Contains rs s × (s.number ≡ n)
  top : (r : RecordPlace) → Contains rs r → r.number ≡ n → IsTop r noted

no_newer : (r s t : RecordPlace) → IsNoNewer r s → s.serial ≤ t.serial → slot_place r ≤ slot_place t → IsNoNewer r t
no_newer r s t is older before = ⊎_elim
    (λ (lt : r.serial < t.serial). inl lt)
    (λ (ge : t.serial ≤ r.serial). ⊎_elim
    (λ (lower : r.serial < s.serial). absurd (omega arith))
    (λ (same : (r.serial ≡ s.serial) × (slot_place r ≤ slot_place s)).
    let serial = same.0 in inr (omega arith, before))
    is)
    (cases_lt r.serial t.serial)

low_push : (rs : List RecordPlace) (x : RecordPlace) (bound : ℕ)
    → ((r : RecordPlace) → Contains rs r → slot_place r < bound) → bound ≤ slot_place x
    → (r : RecordPlace) → Contains (rs ++ x ∷ []) r → slot_place r < slot_place x + 1
low_push rs x bound low past r there = ⊎_elim
    (λ (before : Contains rs r). let below = low r before in omega arith)
    (λ (here : x ≡ r). let same = ap slot_place here in omega arith)
    (Contains-push_cases rs x r there)

ranked_other : (n : ℕ) (noted : Option RecordPlace) (rs : List RecordPlace) (x : RecordPlace) (bound : ℕ)
    → IsRanked n noted rs bound → bound ≤ slot_place x → x.number ≢ n
    → IsRanked n noted (rs ++ x ∷ []) (slot_place x + 1)
ranked_other n noted rs x bound is past other = record {
  low = low_push rs x bound is.low past;
  from = λ s e. let w = is.from s e in (Contains-append_left rs (x ∷ []) s w.0, w.1);
  top = λ r there same. ⊎_elim
      (λ (before : Contains rs r). is.top r before same)
      (λ (here : x ≡ r). absurd (other (ap (λ (s : RecordPlace). s.number) here ∙ same)))
      (Contains-push_cases rs x r there);
}

-- the record is taken
ranked_takes : (n : ℕ) (rs : List RecordPlace) (x : RecordPlace) (bound : ℕ)
    → ((r : RecordPlace) → Contains rs r → slot_place r < bound) → bound ≤ slot_place x → x.number ≡ n
    → ((r : RecordPlace) → Contains rs r → r.number ≡ n → IsNoNewer r x)
    → IsRanked n (Some x) (rs ++ x ∷ []) (slot_place x + 1)
ranked_takes n rs x bound low past same top = record {
  low = low_push rs x bound low past;
  from = λ s e. let is = same_Some x s e in
      (subst (Contains (rs ++ x ∷ [])) is (Contains-push rs x), ap (λ (r : RecordPlace). r.number) (sym is) ∙ same);
  top = λ r there number. ⊎_elim
      (λ (before : Contains rs r). top r before number)
      (λ (here : x ≡ r). inr (ap (λ (s : RecordPlace). s.serial) (sym here), let place = ap slot_place here in omega arith))
      (Contains-push_cases rs x r there);
}

ranked_same : (n : ℕ) (noted : Option RecordPlace) (rs : List RecordPlace) (x : RecordPlace) (bound : ℕ)
    → IsRanked n noted rs bound → bound ≤ slot_place x → x.number ≡ n
    → IsRanked n (Some (newer noted x)) (rs ++ x ∷ []) (slot_place x + 1)
ranked_same n None rs x bound is past same =
    ranked_takes n rs x bound is.low past same (λ r there number. absurd (is.top r there number))
ranked_same n (Some s) rs x bound is past same = ⊎_elim
    (λ (lt : x.serial < s.serial). let less : nat_lt x.serial s.serial ≡ true = lt-ltb _ _ lt in
    rw less (record {
      low = low_push rs x bound is.low past;
      from = λ t e. let w = is.from t e in (Contains-append_left rs (x ∷ []) t w.0, w.1);
      top = λ r there number. ⊎_elim
          (λ (before : Contains rs r). is.top r before number)
          (λ (here : x ≡ r). inl (let serial = ap (λ (t : RecordPlace). t.serial) here in omega arith))
          (Contains-push_cases rs x r there);
    }))
    (λ (ge : s.serial ≤ x.serial). let no : nat_lt x.serial s.serial ≡ false = le-ltb _ _ ge in
    rw no (ranked_takes n rs x bound is.low past same
    (λ r there number. let below = is.low r there in no_newer r s x (is.top r there number) ge (omega arith))))
    (cases_lt x.serial s.serial)

-- of all records up to here
abbrev AreRanked : ℕ → List RecordPlace → ℕ → Type 0
AreRanked n rs bound = IsRanked n (newest n rs) rs bound

ranked_push : (n : ℕ) (rs : List RecordPlace) (x : RecordPlace) (bound : ℕ) → AreRanked n rs bound
    → bound ≤ slot_place x → AreRanked n (rs ++ x ∷ []) (slot_place x + 1)
ranked_push n rs x bound is past =
    let noted : newest n (rs ++ x ∷ []) ≡ note_at n (newest n rs) x =
    newest_from-append n None rs (x ∷ []) ∙ newest_from-one n (newest n rs) x in
    subst (λ (o : Option RecordPlace). IsRanked n o (rs ++ x ∷ []) (slot_place x + 1)) (sym noted) (⊎_elim
    (λ (same : ((x.number == n) ≡ true) × (x.number ≡ n)). rw same.0
    (ranked_same n (newest n rs) rs x bound is past same.1))
    (λ (other : ((x.number == n) ≡ false) × (x.number ≢ n)). rw other.0
    (ranked_other n (newest n rs) rs x bound is past other.1))
    (eqb_tells x.number n))

ranked_higher : (n : ℕ) (rs : List RecordPlace) (bound more : ℕ) → AreRanked n rs bound → bound ≤ more → AreRanked n rs more
ranked_higher n rs bound more is past = record {
  low = λ r there. let below = is.low r there in omega arith;
  from = is.from;
  top = is.top;
}

ranked_listed : (n : ℕ) (rs : List RecordPlace) (o : Option RecordPlace) (bound : ℕ) → AreRanked n rs bound
    → ((x : RecordPlace) → o ≡ Some x → slot_place x ≡ bound) → AreRanked n (rs ++ listed o) (bound + 1)
ranked_listed n rs None bound is at =
    subst (λ (xs : List RecordPlace). AreRanked n xs (bound + 1)) (sym (append-nil rs))
    (ranked_higher n rs bound (bound + 1) is (omega arith))
ranked_listed n rs (Some x) bound is at =
    let place = at x refl in
    subst (λ (k : ℕ). AreRanked n (rs ++ x ∷ []) (k + 1)) place (ranked_push n rs x bound is (omega arith))

ranked_places : (n : ℕ) (rs : List RecordPlace) (serial address : ℕ) (block : List ℕ) (slots : ℕ)
    → AreRanked n rs (4 * address)
    → AreRanked n (rs ++ places_in serial address block slots) (4 * address + slots)
unfolding places_in
ranked_places n rs serial address block zero is =
    let at : 4 * address ≡ 4 * address + 0 = omega arith in
    subst (AreRanked n (rs ++ [])) at
    (subst (λ (xs : List RecordPlace). AreRanked n xs (4 * address)) (sym (append-nil rs)) is)
ranked_places n rs serial address block (suc slots) is =
    let o = option_map (place_of serial address slots) (fields_in (slot_of block slots)) in
    let one : 4 * address + slots + 1 ≡ 4 * address + suc slots = omega arith in
    subst (AreRanked n (rs ++ places_in serial address block (suc slots))) one
    (subst (λ (xs : List RecordPlace). AreRanked n xs (4 * address + slots + 1))
    (append_assoc rs (places_in serial address block slots) (listed o))
    (ranked_listed n (rs ++ places_in serial address block slots) o (4 * address + slots)
    (ranked_places n rs serial address block slots is)
    (λ x e. ap slot_place (sym (map_some (place_of serial address slots) (fields_in (slot_of block slots)) x e).1.1))))

ranked_if : (n : ℕ) (rs more : List RecordPlace) (test : Bool) (bound : ℕ) → AreRanked n rs bound
    → AreRanked n (rs ++ more) (bound + 4) → AreRanked n (rs ++ (if test then more else [])) (bound + 4)
ranked_if n rs more true bound is then_ = then_
ranked_if n rs more false bound is then_ =
    subst (λ (xs : List RecordPlace). AreRanked n xs (bound + 4)) (sym (append-nil rs))
    (ranked_higher n rs bound (bound + 4) is (omega arith))

ranked_records : (m : SegmentMemory) (n address : ℕ) → AreRanked n (records m address) (4 * address)
unfolding records records_at newest_from
ranked_records m n zero = record {
  low = λ r there. let below = there.1 in absurd (omega arith);
  from = λ s e. absurd (none-some s e);
  top = λ r there number. let below = there.1 in absurd (omega arith);
}
ranked_records m n (suc address) =
    let c = course m address in
    let before = ranked_records m n address in
    let at : 4 * address + 4 ≡ 4 * suc address = omega arith in
    subst (AreRanked n (records m (suc address))) at
    (ranked_if n (records m address) (places_in c.serial address (block_at m address) 4) (at_inodes c) (4 * address) before
    (ranked_places n (records m address) c.serial address (block_at m address) 4 before))

newest_if : (m : SegmentMemory) (n : ℕ) (noted : Option RecordPlace) (bound : ℕ)
    → IsRanked n noted (records m (end_of m)) bound → IsNewest m n noted
newest_if m n None bound ranked = λ r is number. ranked.top r (records-all m r is) number
newest_if m n (Some s) bound ranked =
    let w = ranked.from s refl in
    (records-are m s w.0, (w.1, λ r is number. ranked.top r (records-all m r is) number))

-- what is noted in the end
pub newest_is : (m : SegmentMemory) (n : ℕ) → IsNewest m n (newest n (records m (end_of m)))
newest_is m n =
    newest_if m n (newest n (records m (end_of m))) (4 * end_of m) (ranked_records m n (end_of m))
