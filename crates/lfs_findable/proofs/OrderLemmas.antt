-- The marks of some partial segments, the highest serial of those outside a segment, and the table of their serials.
use Rattle.std.proofs.Common.{◌≡◌, ◌≢◌, ℕ, ◌+◌, ◌<◌, ◌≤◌, inl, inr, Bool, true, false, List, Option, Some, None}
use Rattle.std.proofs.Common.{get_or, sym, ap, ◌∙◌, ⊎_elim, arith}
use Rattle.std.specs.List.{All, Contains}
use Rattle.std.proofs.lemmas.Bool.{cases_eq, cases_lt}
use Rattle.std.proofs.lemmas.List.Elements.{All-contains, Contains-get_or}
use Rattle.std.proofs.lemmas.Option.{none-some, same_Some}
use Rattle.lfs_segments.specs.Memory.{SegmentMemory, block_at}
use Rattle.lfs_segments.specs.Serial.{told_in}
use Rattle.lfs_recovery.specs.declared.places.PartialSegment.{PartialSegment}
use Rattle.lfs_findable.specs.Judging.{AreFirstMarked, AreListed, AreOrdered, HasOutside, HaveOnePlace, IsElsewhere}
use Rattle.lfs_findable.specs.Judging.{IsHighestOutside, IsInOrder, IsMarkedOrNone, IsNextMarked, IsNoOther, MarksOf}
use Rattle.lfs_findable.specs.Judging.{place_behind}
use Rattle.lfs_findable.specs.Maps.{address_of}
use Rattle.lfs_findable.specs.declared.places.Places.{Places}

-- ---- marks

marked_other : (m : SegmentMemory) (ps : List PartialSegment) (marks : List Bool) (a : ℕ) → MarksOf ps marks
    → IsMarkedOrNone m marks a → IsNoOther m ps a
marked_other m ps marks a are is = ⊎_elim
    (λ (mark : get_or marks a false ≡ true). inl ((are a).0 mark))
    (λ (none : told_in (block_at m a) ≡ None). inr none)
    is

other_marked : (m : SegmentMemory) (ps : List PartialSegment) (marks : List Bool) (a : ℕ) → MarksOf ps marks
    → IsNoOther m ps a → IsMarkedOrNone m marks a
other_marked m ps marks a are is = ⊎_elim
    (λ begins. inl ((are a).1 begins))
    (λ (none : told_in (block_at m a) ≡ None). inr none)
    is

pub marked_listed : (m : SegmentMemory) (ps : List PartialSegment) (marks : List Bool) → MarksOf ps marks
    → AreFirstMarked m marks → All (IsNextMarked m marks) ps → AreListed m ps
marked_listed m ps marks are first next = record {
  first = λ segment below. marked_other m ps marks _ are (first segment below);
  next = λ p there same. marked_other m ps marks (place_behind p) are
      (All-contains (IsNextMarked m marks) ps p next there same);
}

pub listed_first : (m : SegmentMemory) (ps : List PartialSegment) (marks : List Bool) → MarksOf ps marks
    → AreListed m ps → AreFirstMarked m marks
listed_first m ps marks are l = λ segment below. other_marked m ps marks _ are (l.first segment below)

pub listed_next : (m : SegmentMemory) (ps : List PartialSegment) (marks : List Bool) → MarksOf ps marks
    → AreListed m ps → All (IsNextMarked m marks) ps
listed_next m ps marks are l = λ k d below same.
    let p : PartialSegment = get_or ps k d in
    other_marked m ps marks (place_behind p) are (l.next p (Contains-get_or ps k d below) same)

-- ---- serials

-- one of some partial segments has this serial and begins at this address
abbrev pub HasAt : List PartialSegment → ℕ → ℕ → Type 0
HasAt ps serial address = (p : PartialSegment) × (Contains ps p × ((p.serial ≡ serial) × (p.address ≡ address)))

pub in_order : (active next highest : ℕ) (ps : List PartialSegment) → IsHighestOutside active ps highest
    → All (IsInOrder active next highest) ps → HaveOnePlace ps → AreOrdered active next ps
in_order active next highest ps is all apart = record {
  below = λ p there. (All-contains (IsInOrder active next highest) ps p all there).below;
  above = λ p q there here other at.
      let more = (All-contains (IsInOrder active next highest) ps q all here).above at in
      let most = is.most p there other in
      omega arith;
  apart = apart;
}

pub each_in_order : (active next highest : ℕ) (ps : List PartialSegment) → IsHighestOutside active ps highest
    → All (λ (p : PartialSegment). 0 < p.serial) ps → AreOrdered active next ps → (p : PartialSegment) → Contains ps p
    → IsInOrder active next highest p
each_in_order active next highest ps is counted o p there = record {
  below = o.below p there;
  above = λ at. ⊎_elim
      (λ (none : highest ≡ 0). let some = All-contains (λ (q : PartialSegment). 0 < q.serial) ps p counted there in
      omega arith)
      (λ (one : HasOutside active ps highest).
      let less = o.above one.0 p one.1.0 there one.1.1.0 at in
      let same = one.1.1.1 in
      omega arith)
      is.one;
}

-- ---- the table of serials

-- it has the places of the first of some partial segments, and no others
pub record IsTableOf (ps : List PartialSegment) (places : Places) (n : ℕ) : Type 0 where
  pub sound : (serial address : ℕ) → address_of places serial ≡ Some address → HasAt ps serial address
  pub kept : (k : ℕ) (d : PartialSegment) → k < n
      → address_of places (get_or ps k d).serial ≡ Some (get_or ps k d).address

-- where another place is noted of a serial, two have it
pub elsewhere_two : (ps : List PartialSegment) (places : Places) (n : ℕ) (p : PartialSegment) (found : Option ℕ)
    → IsTableOf ps places n → Contains ps p → found ≡ address_of places p.serial → IsElsewhere found p.address
    → HaveOnePlace ps → ⊥
elsewhere_two ps places n p None table there at is one = is
elsewhere_two ps places n p (Some a) table there at is one =
    let other = table.sound p.serial a (sym at) in
    is (sym other.1.1.1 ∙ one other.0 p other.1.0 there other.1.1.0)

-- a place that is no other is the same
same_place : (found : Option ℕ) (a address : ℕ) → found ≡ Some a → (IsElsewhere found address → ⊥) → a ≡ address
same_place None a address is not = absurd (none-some a is)
same_place (Some b) a address is not = ⊎_elim
    (λ (same : b ≡ address). sym (same_Some b a is) ∙ same)
    (λ (other : b ≢ address). absurd (not other))
    (cases_eq b address)

pub table_more : (ps : List PartialSegment) (old new : Places) (n : ℕ) (e : PartialSegment) (found : Option ℕ)
    → IsTableOf ps old n → Contains ps (get_or ps n e) → ((d : PartialSegment) → get_or ps n d ≡ get_or ps n e)
    → found ≡ address_of old (get_or ps n e).serial → (IsElsewhere found (get_or ps n e).address → ⊥)
    → address_of new (get_or ps n e).serial ≡ Some (get_or ps n e).address
    → ((q : ℕ) → q ≢ (get_or ps n e).serial → address_of new q ≡ address_of old q) → IsTableOf ps new (n + 1)
table_more ps old new n e found table there any at not put others =
    let p : PartialSegment = get_or ps n e in
    record {
      sound = λ serial address is. ⊎_elim
          (λ (same : serial ≡ p.serial).
          let place : p.address ≡ address = same_Some p.address address
          (sym put ∙ ap (address_of new) (sym same) ∙ is) in
          (p, (there, (sym same, place))))
          (λ (other : serial ≢ p.serial). table.sound serial address (sym (others serial other) ∙ is))
          (cases_eq serial p.serial);
      kept = λ k d below.
          let q : PartialSegment = get_or ps k d in
          ⊎_elim
          (λ (less : k < n). ⊎_elim
          (λ (same : q.serial ≡ p.serial).
          let was : found ≡ Some q.address = at ∙ ap (address_of old) (sym same) ∙ table.kept k d less in
          ap (address_of new) same ∙ put ∙ ap Some (sym (same_place found q.address p.address was not)))
          (λ (other : q.serial ≢ p.serial). others q.serial other ∙ table.kept k d less)
          (cases_eq q.serial p.serial))
          (λ (not_less : n ≤ k).
          let here : k ≡ n = omega arith in
          let is : q ≡ p = ap (λ (j : ℕ). get_or ps j d) here ∙ any d in
          ap (λ (r : PartialSegment). address_of new r.serial) is ∙ put
          ∙ ap (λ (r : PartialSegment). Some r.address) (sym is))
          (cases_lt k n);
    }

pub one_place : (ps : List PartialSegment) (places : Places) (n : ℕ) → IsTableOf ps places n
    → ((p : PartialSegment) → Contains ps p → address_of places p.serial ≡ Some p.address) → HaveOnePlace ps
one_place ps places n table each = λ p q there here same.
    same_Some p.address q.address (sym (each p there) ∙ ap (address_of places) same ∙ each q here)
