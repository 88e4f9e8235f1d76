-- A memory stays one of which all is found: `fresh_is_recoverable`, `writes_recoverable` and `opens_recoverable`, by the
-- steps of `WrittenLemmas`. These ask for the serial of what is written, and that it isn't the last one: it is below the
-- next one then, as the new summary is one of those whose serials are (`new_summary`). A summary that is written, and
-- then the blocks of its entries, make a partial segment (`partial_entries`).
use Rattle.std.proofs.Common.{◌≡◌, ℕ, ◌+◌, ◌*◌, ◌<◌, ◌≤◌, inl, inr, true, List, [], Option, Some, None, is_some}
use Rattle.std.proofs.Common.{length, refl, sym, ap, subst, ◌∙◌, ⊎_elim, arith}
use Rattle.std.proofs.lemmas.Bool.{false≢true}
use Rattle.lfs_segments.specs.declared.entry.SummaryEntry.{SummaryEntry}
use Rattle.lfs_segments.specs.Log.{Expects, Extends, IsOlder, expected_at}
use Rattle.lfs_segments.specs.Memory.{IsLaidOut, SegmentMemory, fresh_with, has_serials, next_address}
use Rattle.lfs_segments.specs.Memory.{block_at, log_start}
use Rattle.lfs_segments.specs.Rising.{IsRising, IsRisingTo, IsSummaryAt}
use Rattle.lfs_segments.specs.Serial.{IsSerialOf, IsSummaryWith, Told, told_in}
use Rattle.lfs_segments.proofs.MemoryLemmas.{fresh_laid_out}
use Rattle.lfs_segments.proofs.RisingLemmas.{expected_at-same, rising-fresh, rising-opened, same_summary}
use Rattle.lfs_segments.proofs.SerialLemmas.{told_in-spelled}
use Rattle.lfs_segments.proofs.WritingLemmas.{fresh_is}
use Rattle.lfs_inodes.specs.Reading.{Fields, fields_in}
use Rattle.lfs_inodes.specs.Slots.{slot_of}
use Rattle.lfs_recovery.specs.Whole.{ends_in_inodes, has_record, is_there}
use Rattle.lfs_found.specs.Written.{FreshIsRecoverable, IsFindable, IsRecoverable, OpensRecoverable, WritesEntries}
use Rattle.lfs_found.specs.Written.{WritesPartial, WritesRecoverable, next_told}
use Rattle.lfs_found.proofs.ChainLemmas.{summary_at, told_some}
use Rattle.lfs_found.proofs.WrittenLemmas.{opens_whole, writes_whole}

-- ---- a summary is written, and then the blocks of its entries

pub has_record-some : (m : SegmentMemory) (a : ℕ) (f : Fields) → fields_in (slot_of (block_at m a) 0) ≡ Some f
    → has_record m a ≡ true
unfolding has_record
has_record-some m a f is = ap is_there is

older_still : (a b : SegmentMemory) (x : ℕ) → Extends a b → IsOlder a x → IsOlder b x
older_still a b x e older =
    let active = e.active in
    let fill = e.fill in
    ⊎_elim
    (λ (before : x < next_address a). inl (omega arith))
    (λ (beyond : a.active * 64 + 64 ≤ x). inr (omega arith))
    older

pub Extends-trans : (a b c : SegmentMemory) → Extends a b → Extends b c → Extends a c
Extends-trans a b c h g = record {
  segments = g.segments ∙ h.segments;
  active = g.active ∙ h.active;
  fill = let first = h.fill in let second = g.fill in omega arith;
  serials = g.serials ∙ h.serials;
  blocks = λ x older. g.blocks x (older_still a b x h older) ∙ h.blocks x older;
  entries = λ x older. g.entries x (older_still a b x h older) ∙ h.entries x older;
}

-- what a summary with this serial tells
told_with : (block : List ℕ) (o : Option ℕ) (serial segment offset : ℕ) (entries : List SummaryEntry) → length block ≡ 512
    → o ≡ Some serial → IsSummaryWith o block segment offset entries
    → told_in block ≡ Some (record { serial = serial; segment = segment; offset = offset; entries = entries })
told_with block o serial segment offset entries long is summary =
    let s : IsSerialOf block serial segment offset entries =
    subst (λ (k : Option ℕ). IsSummaryWith k block segment offset entries) is summary in
    told_in-spelled block s.summary long s.spelled ∙ ap Some s.told

pub partial_entries : (m b n : SegmentMemory) (entries : List SummaryEntry) → Expects m [] → Expects n [] → IsLaidOut b
    → Extends m b → Extends b n → next_address b ≡ next_address m + 1
    → IsSummaryWith m.serial (block_at b (next_address m)) m.active m.fill entries
    → next_address n ≡ next_address m + 1 + length entries → ends_in_inodes entries ≡ true
    → has_record n (next_address m + length entries) ≡ true → WritesEntries m n entries
partial_entries m b n entries ready again laid first second next summary grown last there = record {
  whole = λ serial some. record {
    ready = ready;
    again = again;
    extends = Extends-trans m b n first second;
    grown = grown;
    told =
        let whole = laid.whole in
        let within = laid.within in
        let active = laid.active in
        let long : length (block_at b (next_address m)) ≡ 512 = laid.each (next_address m) [] (omega arith) in
        ap told_in (second.blocks (next_address m) (inl (omega arith)))
        ∙ told_with (block_at b (next_address m)) m.serial serial m.active m.fill entries long some summary;
    serial = some;
    last = last;
    record_there = there;
  };
}

-- ---- the memory then

-- the summary of what was written is one
pub new_summary : (m n : SegmentMemory) (t : Told) → log_start m.active ≤ m.fill → IsLaidOut n → WritesPartial m n t
    → IsSummaryAt n (next_address m) t
new_summary m n t begun after w =
    let within = after.within in
    let inside = after.active in
    let active = w.extends.active in
    let segments = w.extends.segments in
    let grown = w.grown in
    let expects : expected_at n m.active (next_address m) ≡ Some [] =
    expected_at-same m n m.active (next_address m) w.extends.serials (λ b from below. w.extends.blocks b (inl below))
    ∙ w.ready.pending in
    summary_at n m.active (next_address m) t (omega arith) (omega arith) (omega arith) expects w.told

pub recoverable_rises : (m : SegmentMemory) → IsRecoverable m → IsRising m
recoverable_rises m r = record { to = λ next is low. (r.to next is low).rising }

pub writes_recoverable : WritesRecoverable
writes_recoverable m n entries begun after kind rising w r = record { to = λ next is low. found m.serial refl next is low }
  where
    found : (o : Option ℕ) → m.serial ≡ o → (next : ℕ) → n.serial ≡ Some next → next < 4294967295 → IsFindable n next
    found None none next is low =
        absurd (false≢true (sym (ap (λ (o : Option ℕ). is_some o) none) ∙ sym kind ∙ ap (λ (o : Option ℕ). is_some o) is))
    found (Some serial) some next is low =
        let p = w.whole serial some in
        let rises : IsRisingTo n next = rising.to next is low in
        let below : serial < next =
        rises.below (next_address m) (next_told m serial entries) (new_summary m n (next_told m serial entries) begun after p) in
        let f : IsFindable m serial = r.to serial some (omega arith) in
        record {
          laid_out = after;
          kind = kind ∙ f.kind;
          rising = rises;
          whole = writes_whole m n (next_told m serial entries) f p;
        }

pub opens_recoverable : OpensRecoverable
opens_recoverable m segment inside laid r = record {
  to = λ next is low.
      let f : IsFindable m next = r.to next is low in
      record {
        laid_out = laid;
        kind = f.kind;
        rising = (rising-opened m segment f.laid_out inside (recoverable_rises m r)).to next is low;
        whole = opens_whole m next segment f inside;
      };
}

pub fresh_is_recoverable : FreshIsRecoverable
fresh_is_recoverable serial segments inodes told least most = record {
  to = λ next is low.
      let m = fresh_with serial segments inodes in
      let kind : has_serials m ≡ true = ap (λ (o : Option ℕ). is_some o) is in
      record {
        laid_out = subst IsLaidOut (fresh_is serial segments inodes (omega arith))
            (fresh_laid_out serial segments inodes told (omega arith) (omega arith));
        kind = kind;
        rising = (rising-fresh serial segments inodes (omega arith)).to next is low;
        whole = record {
          last = λ a t p. absurd (none kind a t p);
          record_there = λ a t p. absurd (none kind a t p);
        };
      };
}
  where
    -- serials rise to 1 there, and begin with 1
    none : is_some serial ≡ true → (a : ℕ) (t : Told) → IsSummaryAt (fresh_with serial segments inodes) a t → ⊥
    none kind a t p =
        let one = fresh_with (Some 1) segments inodes in
        let rises : IsRisingTo one 1 = (rising-fresh (Some 1) segments inodes (omega arith)).to 1 refl (omega arith) in
        let low = rises.below a t
        (same_summary one (fresh_with serial segments inodes) a t refl kind (λ b from below. refl) p) in
        let some = told_some _ t p.told in
        absurd (omega arith)
