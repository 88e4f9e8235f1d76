-- The records of recovery are those that the log names: `finds_records`. A summary's k-th entry is what the log names at
-- the k-th address behind it (`entry-behind`), as its blocks stand in its segment. So the newest of a number is the
-- latest that the log names (`finds_newest`), and there is one (`latest_is_one`): slot and address make one place.
use Rattle.std.proofs.Common.{◌≡◌, ℕ, zero, suc, ◌+◌, ◌-◌, ◌*◌, ◌/◌, ◌<◌, ◌≤◌, true, List, [], ◌∷◌, Some}
use Rattle.std.proofs.Common.{drop, get_or, length, refl, sym, ap, ◌∙◌, ⊎_elim, arith}
use Rattle.std.specs.List.{slice_get}
use Rattle.std.proofs.lemmas.Option.{same_Some}
use Rattle.lfs_inodes.specs.Reading.{Fields, fields_in}
use Rattle.lfs_inodes.specs.Slots.{slot_of}
use Rattle.lfs_segments.specs.declared.entry.SummaryEntry.{SummaryEntry}
use Rattle.lfs_segments.specs.Entry.{unused}
use Rattle.lfs_segments.specs.Log.{entry_at}
use Rattle.lfs_segments.specs.Memory.{SegmentMemory, block_at, has_serials}
use Rattle.lfs_segments.specs.Rising.{IsRisingTo}
use Rattle.lfs_segments.specs.Serial.{Told}
use Rattle.lfs_segments.proofs.LogLemmas.{entry_at-in, next_entry}
use Rattle.lfs_recovery.specs.declared.places.PartialSegment.{PartialSegment}
use Rattle.lfs_recovery.specs.declared.places.RecordPlace.{RecordPlace}
use Rattle.lfs_recovery.specs.Newest.{IsRecord}
use Rattle.lfs_recovery.proofs.LogLemmas.{whole_inside}
use Rattle.lfs_found.specs.Found.{AreWhole, FindsNewest, FindsRecords, IsBegun, IsNamed, LatestIsOne}
use Rattle.lfs_found.proofs.ChainLemmas.{expected-behind, finds_all, finds_begun, whole_begun}

get_drop : (es : List SummaryEntry) (j : ℕ) → j < length es → slice_get (drop j es) 0 ≡ Some (get_or es j unused)
get_drop [] j low = absurd (omega arith)
get_drop (e ∷ es) zero low = refl
get_drop (e ∷ es) (suc j) low = get_drop es j (omega arith)

-- what the log names at an address of a partial segment
pub entry-behind : (m : SegmentMemory) (next : ℕ) (p : PartialSegment) (k : ℕ) → has_serials m ≡ true → IsRisingTo m next
    → AreWhole m → (b : IsBegun m p) → k < p.count
    → entry_at m (p.address + 1 + k) ≡ Some (get_or b.told.entries k unused)
entry-behind m next p k kind rising whole b low =
    let w = whole_begun m next p rising whole b in
    let segment : ℕ = p.address / 64 in
    let inside = whole_inside m segment p w (omega arith) (omega arith) in
    let count = b.count in
    let here : (p.address + 1 + k) / 64 ≡ segment = omega arith in
    entry_at-in m segment (p.address + 1 + k) here
    ∙ ap next_entry (expected-behind m segment p.address k b.told kind b.summary.behind b.summary.expects b.summary.told
    (omega arith))
    ∙ get_drop b.told.entries k (omega arith)

named_is : (m : SegmentMemory) (next : ℕ) (r : RecordPlace) → has_serials m ≡ true → IsRisingTo m next → AreWhole m
    → IsRecord m r → IsNamed m r
named_is m next r kind rising whole is =
    let p = is.segment in
    let b = finds_begun m p kind is.logged in
    let k = is.entry in
    let low = is.named in
    let at = is.address in
    let told : b.told ≡ is.told = same_Some b.told is.told (sym b.summary.told ∙ is.spelled) in
    record {
      segment = p;
      begun = b;
      serial = is.serial;
      behind = omega arith;
      within = omega arith;
      entry = get_or b.told.entries k unused;
      named = ap (entry_at m) at ∙ entry-behind m next p k kind rising whole b low;
      inodes = ap (λ (t : Told). (get_or t.entries k unused).block) told ∙ is.inodes;
      slot = is.slot;
      fields = is.fields;
      read = is.read;
      number = is.number;
      version = is.version;
    }

record_is : (m : SegmentMemory) (next : ℕ) (r : RecordPlace) → has_serials m ≡ true → IsRisingTo m next → AreWhole m
    → IsNamed m r → IsRecord m r
record_is m next r kind rising whole is =
    let p = is.segment in
    let b = is.begun in
    let behind = is.behind in
    let within = is.within in
    let k : ℕ = r.address - (p.address + 1) in
    let at : r.address ≡ p.address + 1 + k = omega arith in
    let low : k < p.count = omega arith in
    let entry : is.entry ≡ get_or b.told.entries k unused = same_Some is.entry (get_or b.told.entries k unused)
    (sym is.named ∙ ap (entry_at m) at ∙ entry-behind m next p k kind rising whole b low) in
    record {
      segment = p;
      logged = finds_all m next p kind rising whole b;
      told = b.told;
      spelled = b.summary.told;
      entry = k;
      named = low;
      inodes = ap (λ (e : SummaryEntry). e.block) (sym entry) ∙ is.inodes;
      serial = is.serial;
      address = at;
      slot = is.slot;
      fields = is.fields;
      read = is.read;
      number = is.number;
      version = is.version;
    }

pub finds_records : FindsRecords
finds_records m next r kind rising whole =
    (λ is. named_is m next r kind rising whole is, λ is. record_is m next r kind rising whole is)

pub finds_newest : FindsNewest
finds_newest m next n s kind rising whole = (
  λ is. record {
    named = named_is m next s kind rising whole is.0;
    number = is.1.0;
    top = λ r named number. is.1.1 r (record_is m next r kind rising whole named) number;
  },
  λ is. (
    record_is m next s kind rising whole is.named,
    (
      is.number,
      λ r found number.
          is.top r (named_is m next r kind rising whole found) number,
    ),
  ),
)

pub latest_is_one : LatestIsOne
latest_is_one m n r s a b =
    let low = a.named.slot in
    let low_too = b.named.slot in
    let same : (r.serial ≡ s.serial) × (4 * r.address + r.slot ≡ 4 * s.address + s.slot) = ⊎_elim
    (λ (less : r.serial < s.serial). ⊎_elim
    (λ (more : s.serial < r.serial). absurd (omega arith))
    (λ (level : (s.serial ≡ r.serial) × (4 * s.address + s.slot ≤ 4 * r.address + r.slot)). let serial = level.0 in
    absurd (omega arith))
    (a.top s b.named b.number))
    (λ (level : (r.serial ≡ s.serial) × (4 * r.address + r.slot ≤ 4 * s.address + s.slot)). ⊎_elim
    (λ (more : s.serial < r.serial). let serial = level.0 in absurd (omega arith))
    (λ (back : (s.serial ≡ r.serial) × (4 * s.address + s.slot ≤ 4 * r.address + r.slot)).
    let first = level.1 in let second = back.1 in (level.0, omega arith))
    (a.top s b.named b.number))
    (b.top r a.named a.number) in
    let place = same.1 in
    let address : r.address ≡ s.address = omega arith in
    let slot : r.slot ≡ s.slot = omega arith in
    let fields : a.named.fields ≡ b.named.fields = same_Some a.named.fields b.named.fields
    (sym a.named.read
    ∙ ap (λ (k : ℕ). fields_in (slot_of (block_at m k) r.slot)) address
    ∙ ap (λ (k : ℕ). fields_in (slot_of (block_at m s.address) k)) slot
    ∙ b.named.read) in
    let version : r.version ≡ s.version =
    a.named.version ∙ ap (λ (f : Fields). f.attributes.version) fields ∙ sym b.named.version in
    let number : r.number ≡ s.number = a.number ∙ sym b.number in
    λ i. record {
      serial = same.0 i;
      number = number i;
      version = version i;
      address = address i;
      slot = slot i;
    }
