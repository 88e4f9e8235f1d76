-- Recovery finds all of a store that was just laid out: `opening_recoverable`, for `format` and `format_with_serials`. Its
-- serials rise to 2, so each summary has serial 1, and no two have the same one: it is the root's, which is whole. The
-- root's record stands alone in its block, so it is its latest (`opening_ordered`).
use Rattle.std.proofs.Common.{◌≡◌, ℕ, ◌+◌, ◌*◌, ◌<◌, inl, inr, true, List, [], ◌∷◌, Some, None, Result, Ok, Err, IfOk, OnErr, OnOk}
use Rattle.std.proofs.Common.{length, refl, sym, ap, subst, ◌∙◌, arith}
use Rattle.std.specs.Prelude.{if◌then◌else◌, ◌==◌}
use Rattle.std.proofs.lemmas.Bool.{cases_eq}
use Rattle.std.proofs.lemmas.Option.{none-some, same_Some}
use Rattle.lfs_segments.specs.Memory.{IsLaidOut, SegmentMemory, block_at, has_serials}
use Rattle.lfs_segments.specs.Rising.{IsRising, IsRisingTo, IsSummaryAt}
use Rattle.lfs_segments.specs.Serial.{IsSerialOf, Told, told_in}
use Rattle.lfs_segments.proofs.LogLemmas.{expected_at-first}
use Rattle.lfs_segments.proofs.SerialLemmas.{told_in-spelled}
use Rattle.lfs_ifile.specs.declared.inode.InodeRow.{InodeRow}
use Rattle.lfs_ifile.specs.Inode.{fresh_row}
use Rattle.lfs_ifile.specs.Tables.{row_of}
use Rattle.lfs_inodes.specs.Reading.{fields_in}
use Rattle.lfs_inodes.specs.Slots.{slot_of}
use Rattle.lfs_recovery.specs.declared.places.RecordPlace.{RecordPlace}
use Rattle.lfs_recovery.specs.Whole.{ends_in_inodes, has_record}
use Rattle.lfs_found.specs.Found.{AreWhole, IsLatest, IsNamed}
use Rattle.lfs_found.specs.Written.{IsFindable, IsRecoverable}
use Rattle.lfs_found.proofs.ChainLemmas.{summary_at, told_some}
use Rattle.lfs_found.proofs.RecoverableLemmas.{has_record-some}
use Rattle.lfs_found.proofs.WrittenLemmas.{begun_at, partial_at}
use Rattle.lfs_log.specs.Parts.{record_place}
use Rattle.lfs_parts.specs.declared.parts.Parts.{Parts}
use Rattle.lfs_parts.specs.Opening.{HasRootBlock, IsOpeningWith, inodes_entry, root_fields, root_row}
use Rattle.lfs_types.specs.declared.store.Change.{Change}
use Rattle.lfs_types.specs.declared.store.Reserve.{Reserve}
use Rattle.lfs_segwrite.specs.Applying.{MakesChanges}
use Rattle.lfs_segwrite.specs.Ordered.{IsOrdered}

-- what the first summary tells
abbrev first_told : Told
first_told = record { serial = 1; segment = 0; offset = 1; entries = inodes_entry ∷ [] }

-- where the root's record stands
abbrev root_place : RecordPlace
root_place = record { serial = 1; number = 2; version = 1; address = 2; slot = 0 }

module _ (m : SegmentMemory) (h : HasRootBlock (Some 1) m) (laid : IsLaidOut m) (r : IsRisingTo m 2) where
  kind : has_serials m ≡ true
  kind = rw h.next refl

  first : IsSummaryAt m 1 first_told
  first =
      let whole = laid.whole in
      let least = laid.at_least in
      let long : length (block_at m 1) ≡ 512 = laid.each 1 [] (omega arith) in
      let s : IsSerialOf (block_at m 1) 1 0 1 (inodes_entry ∷ []) = h.summary in
      summary_at m 0 1 first_told (omega arith) (omega arith) (omega arith) (expected_at-first m 0)
      (told_in-spelled (block_at m 1) s.summary long s.spelled ∙ ap Some s.told)

  -- there is no other
  only : (a : ℕ) (t : Told) → IsSummaryAt m a t → (a ≡ 1) × (t ≡ first_told)
  only a t s =
      let below : t.serial < 2 = r.below a t s in
      let some : 0 < t.serial = told_some (block_at m a) t s.told in
      let one : t.serial ≡ 1 = omega arith in
      let at : a ≡ 1 = r.apart a 1 t first_told s first one in
      (at, same_Some t first_told (sym s.told ∙ ap (λ (b : ℕ). told_in (block_at m b)) at ∙ first.told))

  opening_whole : AreWhole m
  opening_whole = record {
    last = λ a t s. ap (λ (u : Told). ends_in_inodes u.entries) (only a t s).1;
    record_there = λ a t s.
        let is = only a t s in
        ap (λ (b : ℕ). has_record m (b + length t.entries)) is.0
        ∙ ap (λ (u : Told). has_record m (1 + length u.entries)) is.1 ∙ has_record-some m 2 (root_fields 1) h.root;
  }

  root_named : IsNamed m root_place
  root_named = record {
    segment = partial_at 1 first_told;
    begun = begun_at m 1 first_told first;
    serial = refl;
    behind = omega arith;
    within = omega arith;
    entry = inodes_entry;
    named = h.entry;
    inodes = refl;
    slot = omega arith;
    fields = root_fields 1;
    read = h.root;
    number = refl;
    version = refl;
  }

  root_latest : IsLatest m 2 root_place
  root_latest = record {
    named = root_named;
    number = refl;
    top = λ r is number.
        let b = is.begun in
        let one = only is.segment.address b.told b.summary in
        let begins : is.segment.address ≡ 1 = one.0 in
        let count : is.segment.count ≡ 1 = sym b.count ∙ ap (λ (u : Told). length u.entries) one.1 in
        let serial : r.serial ≡ 1 = is.serial ∙ sym b.serial ∙ ap (λ (u : Told). u.serial) one.1 in
        let behind = is.behind in
        let within = is.within in
        let at : r.address ≡ 2 = omega arith in
        let slot : r.slot ≡ 0 = elim (cases_eq r.slot 0) [
          | inl none ↦ none
          | inr some ↦ absurd (none-some is.fields
              (sym (h.alone r.slot (omega arith) is.slot)
              ∙ ap (λ (a : ℕ). fields_in (slot_of (block_at m a) r.slot)) (sym at) ∙ is.read))
        ] in
        inr (serial, omega arith);
  }

pub opening_ordered : (p : Parts) (segments numbers frames : ℕ) → IsOpeningWith (Some 1) segments numbers frames p
    → IsRising p.log.memory → IsOrdered p.log
unfolding record_place
opening_ordered p segments numbers frames h rising = record {
  each = λ next number is bound low somewhere. elim (cases_eq number 2) [
    | inl root ↦
        let two : next ≡ 2 = same_Some next 2 (sym is ∙ h.memory.next) in
        let rises : IsRisingTo p.log.memory 2 = subst (IsRisingTo p.log.memory) two (rising.to next is bound) in
        let row : row_of p.log.tables number ≡ root_row = ap (row_of p.log.tables) root ∙ h.tables.root in
        record {
          record_there = root_place;
          latest = subst (λ (n : ℕ). IsLatest p.log.memory n root_place) (sym root)
              (root_latest p.log.memory h.memory h.parts.laid_out rises);
          here = sym (place_of_row number root_row row);
          version = sym (ap (λ (r : InodeRow). r.version) row);
        }
    | inr other ↦ absurd (somewhere (place_of_row number fresh_row (h.tables.others number other)))
  ];
}
  where
    place_of_row : (n : ℕ) (r : InodeRow) → row_of p.log.tables n ≡ r
        → record_place p.log.tables n ≡ (if r.address == 0 then 0 else 4 * r.address + r.slot)
    place_of_row n r is = ap (λ (r : InodeRow). if r.address == 0 then 0 else 4 * r.address + r.slot) is

pub plain_ordered : (p : Parts) (segments numbers frames : ℕ) → IsOpeningWith None segments numbers frames p
    → IsOrdered p.log
plain_ordered p segments numbers frames h =
    record { each = λ next number is bound low somewhere. absurd (none-some next (sym h.memory.next ∙ is)) }

pub opening_recoverable : (p : Parts) (segments numbers frames : ℕ) → IsOpeningWith (Some 1) segments numbers frames p
    → IsRising p.log.memory → IsRecoverable p.log.memory
opening_recoverable p segments numbers frames h rising = record {
  to = λ next is low.
      let m = p.log.memory in
      let two : next ≡ 2 = same_Some next 2 (sym is ∙ h.memory.next) in
      let rises : IsRisingTo m 2 = subst (IsRisingTo m) two (rising.to next is low) in
      subst (IsFindable m) (sym two) (record {
        laid_out = h.parts.laid_out;
        kind = kind m h.memory h.parts.laid_out rises;
        rising = rises;
        whole = opening_whole m h.memory h.parts.laid_out rises;
      });
}

-- without serials nothing is asked
pub plain_recoverable : (p : Parts) (segments numbers frames : ℕ) → IsOpeningWith None segments numbers frames p
    → IsRecoverable p.log.memory
plain_recoverable p segments numbers frames h =
    record { to = λ next is low. absurd (none-some next (sym h.memory.next ∙ is)) }

pub both_ok : {T E : Type 0} (r : Result T E) (P Q R : T → Type 0) → ((x : T) → P x → Q x → R x) → IfOk r P → IfOk r Q
    → IfOk r R
both_ok (Ok x) P Q R f p q = f x p q
both_ok (Err e) P Q R f p q = tt

-- changes were made, or nothing was done
pub made_recoverable : {T E : Type 0} (r : Result T E) (by : Reserve) (changes : List Change) (old new : Parts)
    → OnOk r (MakesChanges by changes old new) → OnErr r (new ≡ old)
    → IsRecoverable old.log.memory → IsRecoverable new.log.memory
made_recoverable (Ok x) by changes old new made same was = made.log.whole was
made_recoverable (Err e) by changes old new made same was =
    subst (λ (p : Parts). IsRecoverable p.log.memory) (sym same) was

pub made_ordered : {T E : Type 0} (r : Result T E) (by : Reserve) (changes : List Change) (old new : Parts)
    → OnOk r (MakesChanges by changes old new) → OnErr r (new ≡ old) → IsRecoverable old.log.memory
    → IsOrdered old.log → IsOrdered new.log
made_ordered (Ok x) by changes old new made same was order = made.log.ordered was order
made_ordered (Err e) by changes old new made same was order =
    subst (λ (p : Parts). IsOrdered p.log) (sym same) order
