-- What the reader meets in a segment is its log. The whole partial segments that begin in some blocks (`met_in`) are the
-- longest chain from where the next one is to begin (`met_in-longest`): where none begins there no chain goes on
-- (`link_none`), and one that begins is a link (`link_here`). Segment by segment they are all that begin before an
-- address (`partials-joined`), so these are the logs (`partials-logs`). A segment has one log (`longest_one`), so a
-- partial segment of a log is one of these and the other way round (`logged-partials`, `partials-logged`).
use Rattle.std.proofs.Common.{◌≡◌, ℕ, zero, suc, ◌+◌, ◌-◌, ◌*◌, ◌/◌, ◌%◌, ◌<◌, ◌≤◌, Bool, true, false, ◌&&◌, ◌==◌}
use Rattle.std.proofs.Common.{nat_le, nat_lt, List, [], ◌∷◌, ◌++◌, Option, Some, None, option_map, if◌then◌else◌, length, take, drop}
use Rattle.std.proofs.Common.{replicate, slice_index, refl, sym, ap, subst, ◌∙◌, ⊎_elim, append-nil}
use Rattle.std.proofs.Common.{append_assoc, arith}
use Rattle.std.proofs.Math.Nat.{mul-add-mod_self_right}
use Rattle.std.specs.List.{Contains}
use Rattle.std.proofs.lemmas.Bool.{cases_lt, eq-eqb, leb-true, ltb-true, ne_eqb}
use Rattle.std.proofs.lemmas.List.{get_or_append_left, get_or_past, get_or-take, length-take}
use Rattle.std.proofs.lemmas.List.Elements.{Contains-append_cases, Contains-append_left, Contains-append_right}
use Rattle.std.proofs.lemmas.Nat.{div-mul-add}
use Rattle.std.proofs.lemmas.Option.{cond_some, none-some, same_Some}
use Rattle.lfs_segments.specs.declared.entry.SummaryEntry.{SummaryEntry}
use Rattle.lfs_segments.specs.Bytes.{half_at, word_at}
use Rattle.lfs_segments.specs.Memory.{SegmentMemory, block_at, log_start}
use Rattle.lfs_segments.specs.Reading.{all_below, entries_from, entry_from, is_summary, may_name, summary_entries}
use Rattle.lfs_segments.specs.Serial.{Told, told_in, without_serial}
use Rattle.lfs_segments.proofs.BytesLemmas.{half_kept}
use Rattle.lfs_segments.proofs.SerialLemmas.{told_in-more, told_in-zero, told_of}
use Rattle.lfs_segments.proofs.TestLemmas.{both, length-entries_from}
use Rattle.lfs_recovery.specs.declared.places.PartialSegment.{PartialSegment}
use Rattle.lfs_recovery.specs.Course.{Course, begins_log, begun, course, end_of, idle, listed, partial_of, partials}
use Rattle.lfs_recovery.specs.Course.{start, step, turned}
use Rattle.lfs_recovery.specs.Logs.{AreLogs, IsLink, IsLog, IsLogged, IsLongest, joined, log_place}
use Rattle.lfs_recovery.specs.Whole.{IsWhole, ends_in_inodes, has_record, is_next, told_if, whole_at}
use Rattle.lfs_recovery.proofs.CourseLemmas.{course-next, entered-other, entered-start, met-begins, met-ended, met-passes}
use Rattle.lfs_recovery.proofs.CourseLemmas.{partials-next}
use Rattle.lfs_recovery.proofs.WholeLemmas.{is_next-here, told_if-some, whole_at-whole}

-- ---- a summary's blocks stand in its segment

-- a block of a summary has more than 40 bytes, so those before its serial stay
half_before : (bytes : List ℕ) (place : ℕ) → 12 < length bytes → place + 2 ≤ 12
    → half_at (without_serial bytes) place ≡ half_at bytes place
half_before bytes place long low =
    let front : length (take 12 bytes) ≡ 12 = simp length-take (omega arith) in
    half_kept bytes (without_serial bytes) place (λ i from below.
    get_or_append_left (take 12 bytes) (replicate 4 0 ++ drop 16 bytes) 0 i (omega arith)
    ∙ get_or-take 12 bytes i 0 (omega arith))

short_word : (bytes : List ℕ) → length bytes ≤ 12 → word_at bytes 12 ≡ 0
short_word bytes short =
    omega (
      arith,
      get_or_past bytes 12 0 (omega arith),
      get_or_past bytes 13 0 (omega arith),
      get_or_past bytes 14 0 (omega arith),
      get_or_past bytes 15 0 (omega arith),
    )

summary_fits : (bytes : List ℕ) → is_summary bytes ≡ true → half_at bytes 8 + half_at bytes 10 ≤ 63
unfolding is_summary
summary_fits bytes h =
    let rest = (word_at bytes 12 == 0)
    && (all_below (λ k. let e = entry_from bytes (16 + 12 * k) in may_name e.block e.number e.version) (half_at bytes 10)
    && all_below (λ i. slice_index bytes (16 + 12 * half_at bytes 10 + i) == 0) (512 - (16 + 12 * half_at bytes 10))) in
    let fits = nat_le (half_at bytes 8 + half_at bytes 10) 63 in
    let few = nat_le (half_at bytes 10) 40 in
    let some = nat_le 1 (half_at bytes 10) in
    let in_volume = nat_lt (word_at bytes 4) 1024 in
    let p1 = both (word_at bytes 0 == 0x4c46_5353) (in_volume && (some && (few && (fits && rest)))) h in
    let p2 = both in_volume (some && (few && (fits && rest))) p1.1 in
    let p3 = both some (few && (fits && rest)) p2.1 in
    let p4 = both few (fits && rest) p3.1 in
    leb-true _ _ (both fits rest p4.1).0

entries_fit : (bytes : List ℕ) (entries : List SummaryEntry) → summary_entries bytes ≡ Some entries
    → half_at bytes 8 + length entries ≤ 63
unfolding summary_entries
entries_fit bytes entries e =
    let found = cond_some (is_summary bytes) (entries_from bytes 16 (half_at bytes 10)) entries e in
    let fits = summary_fits bytes found.0 in
    let long : length entries ≡ half_at bytes 10 = ap length (sym found.1) ∙ length-entries_from bytes 16 (half_at bytes 10) in
    omega arith

pub map_some : {A B : Type 0} (f : A → B) (o : Option A) (b : B) → option_map f o ≡ Some b
    → (a : A) × ((o ≡ Some a) × (f a ≡ b))
map_some f None b e = absurd (none-some b e)
map_some f (Some a) b e = (a, (refl, same_Some (f a) b e))

told_fits : (bytes : List ℕ) (t : Told) → told_in bytes ≡ Some t → t.offset + length t.entries ≤ 63
told_fits bytes t e = ⊎_elim
    (λ (zero_word : word_at bytes 12 < 1). absurd (none-some t (sym (told_in-zero bytes (omega arith)) ∙ e)))
    (λ (some : 1 ≤ word_at bytes 12). ⊎_elim
    (λ (short : length bytes < 13). let zeros = short_word bytes (omega arith) in absurd (omega arith))
    (λ (long : 13 ≤ length bytes).
    let w = map_some (told_of bytes) (summary_entries (without_serial bytes)) t
    (sym (told_in-more bytes (omega arith)) ∙ e) in
    let fits = entries_fit (without_serial bytes) w.0 w.1.0 in
    let same = half_before bytes 8 (omega arith) (omega arith) in
    let offset : half_at bytes 8 ≡ t.offset = ap (λ (u : Told). u.offset) w.1.1 in
    let entries : length w.0 ≡ length t.entries = ap (λ (u : Told). length u.entries) w.1.1 in
    omega arith)
    (cases_lt (length bytes) 13))
    (cases_lt (word_at bytes 12) 1)

-- ---- links

-- the place of an address in its segment
pub place_in_segment : (segment k : ℕ) → k < 64 → ((segment * 64 + k) % 64 ≡ k) × ((segment * 64 + k) / 64 ≡ segment)
place_in_segment segment k below =
    let small : k % 64 ≡ k = omega arith in
    (mul-add-mod_self_right segment 64 k ∙ small, div-mul-add segment 64 k below)

pub whole_inside : (m : SegmentMemory) (segment : ℕ) (p : PartialSegment) → IsWhole m p → segment * 64 ≤ p.address
    → p.address < (segment + 1) * 64 → p.address + p.count < (segment + 1) * 64
whole_inside m segment p w low high =
    let k : ℕ = p.address - segment * 64 in
    let at : p.address ≡ segment * 64 + k = omega arith in
    let place : p.address % 64 ≡ k = ap (λ (n : ℕ). n % 64) at ∙ (place_in_segment segment k (omega arith)).0 in
    let fits = told_fits (block_at m p.address) w.told w.spelled in
    let offset = w.offset in
    let count = w.count in
    omega arith

-- what is next is newer
next_rises : (m : SegmentMemory) (address above : ℕ) (t : Told) → is_next m address above t ≡ true → above < t.serial
unfolding is_next
next_rises m address above t e =
    let rest = ends_in_inodes t.entries && has_record m (address + length t.entries) in
    let newer = nat_lt above t.serial in
    let offset = t.offset == address % 64 in
    let a = both (t.segment == address / 64) (offset && (newer && rest)) e in
    let b = both offset (newer && rest) a.1 in
    ltb-true _ _ (both newer rest b.1).0

whole_at-rises : (m : SegmentMemory) (address above : ℕ) (t : Told) → whole_at m address above ≡ Some t → above < t.serial
unfolding whole_at
whole_at-rises m address above t e =
    next_rises m address above t (told_if-some (is_next m address above) (told_in (block_at m address)) t e).1

link_here : (m : SegmentMemory) (segment address above : ℕ) (t : Told) → whole_at m address above ≡ Some t
    → segment * 64 ≤ address → address < (segment + 1) * 64
    → IsLink m segment address above (partial_of address t)
link_here m segment address above t e low high =
    let whole = whole_at-whole m address above t e in
    record {
      whole = whole;
      place = refl;
      inside = whole_inside m segment (partial_of address t) whole low high;
      rises = whole_at-rises m address above t e;
    }

-- a whole partial segment is found
whole_at-found : (m : SegmentMemory) (p : PartialSegment) (above : ℕ) (w : IsWhole m p) → above < p.serial
    → whole_at m p.address above ≡ Some w.told
unfolding whole_at
whole_at-found m p above w rises =
    let serial = w.serial in
    let record_there : has_record m (p.address + length w.told.entries) ≡ true =
    ap (λ (n : ℕ). has_record m (p.address + n)) w.count ∙ w.record_there in
    let last = w.last in
    let both_there : (ends_in_inodes w.told.entries && has_record m (p.address + length w.told.entries)) ≡ true =
    rw (last, record_there) refl in
    let next : is_next m p.address above w.told ≡ true =
    is_next-here m p.address above w.told w.segment w.offset (omega arith) ∙ both_there in
    ap (told_if (is_next m p.address above)) w.spelled ∙ ap (λ (b : Bool). if b then Some w.told else None) next

link_none : (m : SegmentMemory) (segment address above : ℕ) → whole_at m address above ≡ None → (p : PartialSegment)
    → IsLink m segment address above p → ⊥
link_none m segment address above none p link =
    none-some link.whole.told
    (sym none ∙ ap (λ (n : ℕ). whole_at m n above) (sym link.place) ∙ whole_at-found m p above link.whole link.rises)

-- ---- longest chains

longest_none : (m : SegmentMemory) (segment address above : ℕ)
    → ((p : PartialSegment) → IsLink m segment address above p → ⊥) → IsLongest m segment address above []
longest_none m segment address above none = record { chain = tt; ended = λ p is. none p is.0 }

longest_more : (m : SegmentMemory) (segment address above : ℕ) (p : PartialSegment) (ps : List PartialSegment)
    → IsLink m segment address above p → IsLongest m segment (p.address + 1 + p.count) p.serial ps
    → IsLongest m segment address above (p ∷ ps)
longest_more m segment address above p ps link rest =
    record { chain = (link, rest.chain); ended = λ q is. rest.ended q is.1 }

-- the partial segment at an address is one
link_one : (m : SegmentMemory) (segment address above : ℕ) (p q : PartialSegment) → IsLink m segment address above p
    → IsLink m segment address above q → p ≡ q
link_one m segment address above p q a b =
    let place : p.address ≡ q.address = a.place ∙ sym b.place in
    let told : a.whole.told ≡ b.whole.told = same_Some a.whole.told b.whole.told
    (sym a.whole.spelled ∙ ap (λ (n : ℕ). told_in (block_at m n)) place ∙ b.whole.spelled) in
    let serial : p.serial ≡ q.serial = sym a.whole.serial ∙ ap (λ (t : Told). t.serial) told ∙ b.whole.serial in
    let count : p.count ≡ q.count = sym a.whole.count ∙ ap (λ (t : Told). length t.entries) told ∙ b.whole.count in
    λ i. record { serial = serial i; address = place i; count = count i }

-- a longest chain is one
pub longest_one : (m : SegmentMemory) (segment address above : ℕ) (ps qs : List PartialSegment)
    → IsLongest m segment address above ps → IsLongest m segment address above qs → ps ≡ qs
longest_one m segment address above [] [] a b = refl
longest_one m segment address above [] (q ∷ qs) a b = absurd (a.ended q (b.chain.0, tt))
longest_one m segment address above (p ∷ ps) [] a b = absurd (b.ended p (a.chain.0, tt))
longest_one m segment address above (p ∷ ps) (q ∷ qs) a b =
    let same : p ≡ q = link_one m segment address above p q a.chain.0 b.chain.0 in
    let rest_a : IsLongest m segment (p.address + 1 + p.count) p.serial ps =
    record { chain = a.chain.1; ended = λ r is. a.ended r (a.chain.0, is) } in
    let rest_b : IsLongest m segment (q.address + 1 + q.count) q.serial qs =
    record { chain = b.chain.1; ended = λ r is. b.ended r (b.chain.0, is) } in
    let rest : ps ≡ qs = longest_one m segment (p.address + 1 + p.count) p.serial ps qs rest_a
    (subst (λ (r : PartialSegment). IsLongest m segment (r.address + 1 + r.count) r.serial qs) (sym same) rest_b) in
    λ i. same i ∷ rest i

-- ---- what is met in a segment

-- the partial segments that begin in so many blocks from an address on, where the reading of a log is so far
abbrev pub met_in : SegmentMemory → ℕ → ℕ → Course → List PartialSegment
met_in m address zero c = []
met_in m address (suc n) c = listed (begun m address c) ++ met_in m (address + 1) n (step m address c)

met_in-step : (m : SegmentMemory) (address n : ℕ) (c d : Course) (found : Option PartialSegment)
    → begun m address c ≡ found → step m address c ≡ d
    → met_in m address (suc n) c ≡ listed found ++ met_in m (address + 1) n d
met_in-step m address n c d found here next =
    ap (λ (o : Option PartialSegment). listed o ++ met_in m (address + 1) n (step m address c)) here
    ∙ ap (λ (e : Course). listed found ++ met_in m (address + 1) n e) next

met_in-ended : (m : SegmentMemory) (address n : ℕ) (c : Course) → c.ended ≡ true → met_in m address n c ≡ []
met_in-ended m address zero c e = refl
met_in-ended m address (suc n) c e =
    let is = met-ended m address c e in
    met_in-step m address n c c None is.0 is.1 ∙ met_in-ended m (address + 1) n c e

-- where the next partial segment is to begin
abbrev next_place : ℕ → Course → ℕ
next_place address c = address + (length c.entries - c.passed)

-- how far the reading of a segment is, with so many blocks left
record IsIn (segment address n : ℕ) (c : Course) : Type 0 where
  open_ : c.ended ≡ false
  few : c.passed ≤ length c.entries
  fits : next_place address c ≤ (segment + 1) * 64
  left : address + n ≡ (segment + 1) * 64
  low : segment * 64 ≤ address

past_none : (m : SegmentMemory) (segment address above : ℕ) → (segment + 1) * 64 ≤ address → (p : PartialSegment)
    → IsLink m segment address above p → ⊥
past_none m segment address above past p link =
    let place = link.place in
    let inside = link.inside in
    absurd (omega arith)

-- how far it is a block later gives the longest chain
abbrev Goes : SegmentMemory → ℕ → ℕ → ℕ → Type 0
Goes m segment address n = (d : Course) → IsIn segment address n d
    → IsLongest m segment (next_place address d) d.serial (met_in m address n d)

longest_passes : (m : SegmentMemory) (segment address n : ℕ) (c : Course) → IsIn segment address (suc n) c
    → Goes m segment (address + 1) n → c.passed < length c.entries
    → IsLongest m segment (next_place address c) c.serial (met_in m address (suc n) c)
longest_passes m segment address n c is goes more =
    let left = is.left in
    let low = is.low in
    let fits = is.fits in
    let d : Course = record c { passed = c.passed + 1 } in
    let here = met-passes m address c is.open_ more in
    let same : next_place (address + 1) d ≡ next_place address c = omega arith in
    let rest = goes d
    (record { open_ = is.open_; few = omega arith; fits = omega arith; left = omega arith; low = omega arith }) in
    subst (λ (a : ℕ). IsLongest m segment a c.serial (met_in m address (suc n) c)) same
    (subst (IsLongest m segment (next_place (address + 1) d) c.serial) (sym (met_in-step m address n c d None here.0 here.1))
    rest)

longest_begins : (m : SegmentMemory) (segment address n : ℕ) (c : Course) (found : Option Told)
    → IsIn segment address (suc n) c → Goes m segment (address + 1) n → length c.entries ≤ c.passed
    → found ≡ whole_at m address c.serial
    → IsLongest m segment (next_place address c) c.serial (met_in m address (suc n) c)
longest_begins m segment address n c None is goes done e =
    let here = met-begins m address c None is.open_ done e in
    let at : next_place address c ≡ address = omega arith in
    let none : met_in m address (suc n) c ≡ [] =
    met_in-step m address n c (turned c None) None here.0 here.1
    ∙ met_in-ended m (address + 1) n (turned c None) refl in
    subst (IsLongest m segment (next_place address c) c.serial) (sym none)
    (subst (λ (a : ℕ). IsLongest m segment a c.serial []) (sym at)
    (longest_none m segment address c.serial (link_none m segment address c.serial (sym e))))
longest_begins m segment address n c (Some t) is goes done e =
    let left = is.left in
    let low = is.low in
    let d : Course = turned c (Some t) in
    let p : PartialSegment = partial_of address t in
    let here = met-begins m address c (Some t) is.open_ done e in
    let at : next_place address c ≡ address = omega arith in
    let link = link_here m segment address c.serial t (sym e) low (omega arith) in
    let inside = link.inside in
    let next : next_place (address + 1) d ≡ p.address + 1 + p.count = omega arith in
    let rest = goes d
    (record { open_ = refl; few = omega arith; fits = omega arith; left = omega arith; low = omega arith }) in
    subst (IsLongest m segment (next_place address c) c.serial)
    (sym (met_in-step m address n c d (Some p) here.0 here.1))
    (subst (λ (a : ℕ). IsLongest m segment a c.serial (p ∷ met_in m (address + 1) n d)) (sym at)
    (longest_more m segment address c.serial p (met_in m (address + 1) n d) link
    (subst (λ (a : ℕ). IsLongest m segment a t.serial (met_in m (address + 1) n d)) next rest)))

met_in-longest : (m : SegmentMemory) (segment address n : ℕ) → Goes m segment address n
met_in-longest m segment address zero c is =
    let left = is.left in
    let fits = is.fits in
    longest_none m segment (next_place address c) c.serial
    (past_none m segment (next_place address c) c.serial (omega arith))
met_in-longest m segment address (suc n) c is = ⊎_elim
    (λ (more : c.passed < length c.entries).
    longest_passes m segment address n c is (met_in-longest m segment (address + 1) n) more)
    (λ (done : length c.entries ≤ c.passed). longest_begins m segment address n c (whole_at m address c.serial) is
    (met_in-longest m segment (address + 1) n) done refl)
    (cases_lt c.passed (length c.entries))

-- ---- segment by segment

begins_log-at : (segment k : ℕ) → k < 64 → begins_log (segment * 64 + k) ≡ (k == log_start segment)
begins_log-at segment k below =
    let at = place_in_segment segment k below in
    ap (λ (n : ℕ). n == log_start ((segment * 64 + k) / 64)) at.0 ∙ ap (λ (n : ℕ). k == log_start n) at.1

pub log_start-few : (segment : ℕ) → log_start segment ≤ 1
log_start-few zero = omega arith
log_start-few (suc segment) = omega arith

-- a log begins at one place of a segment
pub begins_log-not : (segment address : ℕ) → log_place segment < address → address < (segment + 1) * 64
    → begins_log address ≡ false
begins_log-not segment address low high =
    let k : ℕ = address - segment * 64 in
    let at : address ≡ segment * 64 + k = omega arith in
    ap begins_log at ∙ begins_log-at segment k (omega arith) ∙ ne_eqb _ _ (λ e. omega arith)

begins_log-here : (segment : ℕ) → begins_log (log_place segment) ≡ true
begins_log-here segment =
    let few = log_start-few segment in
    begins_log-at segment (log_start segment) (omega arith) ∙ eq-eqb _ _ refl

pub course-zero : (m : SegmentMemory) → course m 0 ≡ idle
unfolding course
course-zero m = sym (entered-other 0 idle refl)

pub course-begins : (m : SegmentMemory) (address : ℕ) → begins_log address ≡ true → course m address ≡ start
unfolding course
course-begins m zero e = sym (entered-start zero idle e)
course-begins m (suc address) e = sym (entered-start (suc address) (step m address (course m address)) e)

pub course-goes : (m : SegmentMemory) (address : ℕ) → begins_log (address + 1) ≡ false
    → course m (address + 1) ≡ step m address (course m address)
course-goes m address e =
    sym (course-next m address) ∙ sym (entered-other (address + 1) (step m address (course m address)) e)

met_in-same : (m : SegmentMemory) (address n : ℕ) (c d : Course) → (0 < n → c ≡ d) → met_in m address n c ≡ met_in m address n d
met_in-same m address zero c d same = refl
met_in-same m address (suc n) c d same = ap (met_in m address (suc n)) (same (omega arith))

pub partials-one : (m : SegmentMemory) (address : ℕ)
    → partials m (address + 1) ≡ partials m address ++ listed (begun m address (course m address))
partials-one m address = sym (partials-next m address (partials m address) (begun m address (course m address)) refl refl)

partials-met : (m : SegmentMemory) (address n : ℕ)
    → ((k : ℕ) → 0 < k → k < n → begins_log (address + k) ≡ false)
    → partials m (address + n) ≡ partials m address ++ met_in m address n (course m address)
partials-met m address zero none =
    let at : address + 0 ≡ address = omega arith in
    ap (partials m) at ∙ sym (append-nil (partials m address))
partials-met m address (suc n) none =
    let c = course m address in
    let at : address + suc n ≡ address + 1 + n = omega arith in
    let rest = partials-met m (address + 1) n (λ k some below. let e : address + 1 + k ≡ address + suc k = omega arith in
    ap begins_log e ∙ none (suc k) (omega arith) (omega arith)) in
    ap (partials m) at ∙ rest
    ∙ ap (λ (xs : List PartialSegment). xs ++ met_in m (address + 1) n (course m (address + 1))) (partials-one m address)
    ∙ append_assoc (partials m address) (listed (begun m address c)) (met_in m (address + 1) n (course m (address + 1)))
    ∙ ap (λ (xs : List PartialSegment). partials m address ++ (listed (begun m address c) ++ xs))
    (met_in-same m (address + 1) n (course m (address + 1)) (step m address c)
    (λ some. course-goes m address (none 1 (omega arith) (omega arith))))

-- the log that is read in a segment
abbrev pub log_in : SegmentMemory → ℕ → List PartialSegment
log_in m segment = met_in m (log_place segment) (64 - log_start segment) start

log_in-is : (m : SegmentMemory) (segment : ℕ) → IsLog m segment (log_in m segment)
log_in-is m segment =
    let few = log_start-few segment in
    let at : next_place (log_place segment) start ≡ log_place segment = omega arith in
    subst (λ (a : ℕ). IsLongest m segment a 0 (log_in m segment)) at
    (met_in-longest m segment (log_place segment) (64 - log_start segment) start
    (record { open_ = refl; few = omega arith; fits = omega arith; left = omega arith; low = omega arith }))

-- nothing begins before the log of a segment
partials-before : (m : SegmentMemory) (segment : ℕ) → partials m (log_place segment) ≡ partials m (segment * 64)
unfolding partials
partials-before m zero =
    let ended : (course m 0).ended ≡ true = ap (λ (c : Course). c.ended) (course-zero m) in
    ap (λ (o : Option PartialSegment). partials m 0 ++ listed o) (met-ended m 0 (course m 0) ended).0
partials-before m (suc segment) =
    let at : log_place (suc segment) ≡ suc segment * 64 = omega arith in
    ap (partials m) at

partials-segment : (m : SegmentMemory) (segment : ℕ)
    → partials m ((segment + 1) * 64) ≡ partials m (segment * 64) ++ log_in m segment
partials-segment m segment =
    let few = log_start-few segment in
    let at : (segment + 1) * 64 ≡ log_place segment + (64 - log_start segment) = omega arith in
    ap (partials m) at
    ∙ partials-met m (log_place segment) (64 - log_start segment)
    (λ k some below. begins_log-not segment (log_place segment + k) (omega arith) (omega arith))
    ∙ ap (λ (c : Course). partials m (log_place segment) ++ met_in m (log_place segment) (64 - log_start segment) c)
    (course-begins m (log_place segment) (begins_log-here segment))
    ∙ ap (λ (xs : List PartialSegment). xs ++ log_in m segment) (partials-before m segment)

partials-joined : (m : SegmentMemory) (n : ℕ) → partials m (n * 64) ≡ joined (log_in m) n
unfolding partials
partials-joined m zero = refl
partials-joined m (suc n) =
    let at : suc n * 64 ≡ (n + 1) * 64 = omega arith in
    ap (partials m) at ∙ partials-segment m n ∙ ap (λ (xs : List PartialSegment). xs ++ log_in m n) (partials-joined m n)

-- what is read are the logs
pub partials-logs : (m : SegmentMemory) (list : List PartialSegment) → list ≡ partials m (end_of m) → AreLogs m list
partials-logs m list e =
    record { logs = log_in m; each = λ segment below. log_in-is m segment; together = e ∙ partials-joined m m.segments }

joined-there : (m : SegmentMemory) (n : ℕ) (p : PartialSegment) → Contains (joined (log_in m) n) p
    → (segment : ℕ) × ((segment < n) × Contains (log_in m segment) p)
joined-there m zero p there = let below = there.1 in absurd (omega arith)
joined-there m (suc n) p there = ⊎_elim
    (λ (before : Contains (joined (log_in m) n) p).
    let w = joined-there m n p before in let below = w.1.0 in (w.0, (omega arith, w.1.1)))
    (λ (here : Contains (log_in m n) p). (n, (omega arith, here)))
    (Contains-append_cases (joined (log_in m) n) (log_in m n) p there)

there-joined : (m : SegmentMemory) (n segment : ℕ) (p : PartialSegment) → segment < n → Contains (log_in m segment) p
    → Contains (joined (log_in m) n) p
there-joined m zero segment p below there = absurd (omega arith)
there-joined m (suc n) segment p below there = ⊎_elim
    (λ (lt : segment < n). Contains-append_left (joined (log_in m) n) (log_in m n) p (there-joined m n segment p lt there))
    (λ (ge : n ≤ segment). let at : segment ≡ n = omega arith in
    Contains-append_right (joined (log_in m) n) (log_in m n) p
    (subst (λ (k : ℕ). Contains (log_in m k) p) at there))
    (cases_lt segment n)

-- what is read is in a log, and what is in a log is read
pub partials-logged : (m : SegmentMemory) (p : PartialSegment) → Contains (partials m (end_of m)) p → IsLogged m p
partials-logged m p there =
    let w = joined-there m m.segments p
    (subst (λ (xs : List PartialSegment). Contains xs p) (partials-joined m m.segments) there) in
    record { segment = w.0; log = log_in m w.0; below = w.1.0; is = log_in-is m w.0; there = w.1.1 }

pub logged-partials : (m : SegmentMemory) (p : PartialSegment) → IsLogged m p → Contains (partials m (end_of m)) p
logged-partials m p l =
    let same : l.log ≡ log_in m l.segment =
    longest_one m l.segment (log_place l.segment) 0 l.log (log_in m l.segment) l.is (log_in-is m l.segment) in
    subst (λ (xs : List PartialSegment). Contains xs p) (sym (partials-joined m m.segments))
    (there-joined m m.segments l.segment p l.below (subst (λ (xs : List PartialSegment). Contains xs p) same l.there))
