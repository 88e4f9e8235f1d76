-- What is written later is the latest: `writes_whole`, `writes_keep` and `writes_latest`. A summary of the memory then is
-- one that was there, or the new one (`summary_back`); one that was there ends before the log did (`older_block`), so its
-- blocks, entries and records stay (`named_stays`, `named_back`), and their serials are lower. An opened segment has no
-- summary (`opened_back`), and the blocks of all others stay (`opens_whole`, `opens_keep`).
use Rattle.std.proofs.Common.{◌≡◌, ◌≢◌, ℕ, ◌+◌, ◌-◌, ◌*◌, ◌/◌, ◌<◌, ◌≤◌, ◌⊎◌, inl, inr, true, List, [], Some, length, refl}
use Rattle.std.proofs.Common.{sym, ap, subst, ◌∙◌, ⊎_elim, arith}
use Rattle.std.proofs.lemmas.Bool.{cases_lt}
use Rattle.std.proofs.lemmas.Option.{same_Some}
use Rattle.lfs_inodes.specs.Reading.{fields_in}
use Rattle.lfs_inodes.specs.Slots.{slot_of}
use Rattle.lfs_segments.specs.Log.{Expects, IsOlder, expected_at, first_of}
use Rattle.lfs_segments.specs.Memory.{IsLaidOut, SegmentMemory, block_at, fresh_with, has_serials, next_address, opened}
use Rattle.lfs_segments.specs.Rising.{IsRisingTo, IsSummaryAt}
use Rattle.lfs_segments.specs.Serial.{Told, told_in}
use Rattle.lfs_segments.proofs.MemoryLemmas.{fresh_laid_out}
use Rattle.lfs_segments.proofs.RisingLemmas.{expected_at-same, no_summary, none_behind, older_summary, rising-fresh}
use Rattle.lfs_segments.proofs.RisingLemmas.{same_summary}
use Rattle.lfs_segments.proofs.WritingLemmas.{block_at-opened, block_at-opened_apart, entry_at-opened_other, fresh_is}
use Rattle.lfs_recovery.specs.declared.places.PartialSegment.{PartialSegment}
use Rattle.lfs_recovery.specs.declared.places.RecordPlace.{RecordPlace}
use Rattle.lfs_recovery.specs.Whole.{ends_in_inodes, has_record, is_there}
use Rattle.lfs_recovery.proofs.LogLemmas.{whole_inside}
use Rattle.lfs_found.specs.Found.{AreWhole, IsBegun, IsNamed}
use Rattle.lfs_found.specs.Written.{FreshIsFindable, IsFindable, OpensKeep, OpensWhole, WritesKeep, WritesLatest, WritesPartial}
use Rattle.lfs_found.specs.Written.{WritesWhole}
use Rattle.lfs_found.proofs.ChainLemmas.{expects_in, none_within, told_some, whole_begun}

has_record-same : (m n : SegmentMemory) (a : ℕ) → block_at n a ≡ block_at m a → has_record n a ≡ has_record m a
unfolding has_record
has_record-same m n a same = ap (λ (block : List ℕ). is_there (fields_in (slot_of block 0))) same

-- the partial segment of a summary
abbrev pub partial_at : ℕ → Told → PartialSegment
partial_at a t = record { serial = t.serial; address = a; count = length t.entries }

pub begun_at : (m : SegmentMemory) (a : ℕ) (t : Told) → IsSummaryAt m a t → IsBegun m (partial_at a t)
begun_at m a t s = record { told = t; summary = s; serial = refl; count = refl }

-- its blocks stand in its segment
block_inside : (m : SegmentMemory) (next : ℕ) (p : PartialSegment) (k : ℕ) → IsFindable m next → IsBegun m p → k ≤ p.count
    → (p.address + k) / 64 ≡ p.address / 64
block_inside m next p k f b low =
    let w = whole_begun m next p f.rising f.whole b in
    let segment : ℕ = p.address / 64 in
    let inside = whole_inside m segment p w (omega arith) (omega arith) in
    omega arith

-- and before the end of the log
older_block : (m : SegmentMemory) (next : ℕ) (p : PartialSegment) (k : ℕ) → IsFindable m next → Expects m []
    → IsBegun m p → k ≤ p.count → IsOlder m (p.address + k)
older_block m next p k f ready b low =
    let laid = f.laid_out in
    let within = laid.within in
    let begun = laid.begun in
    let here = block_inside m next p k f b low in
    let count = b.count in
    ⊎_elim
    (λ (less : p.address / 64 < m.active). inl (omega arith))
    (λ (not_less : m.active ≤ p.address / 64). ⊎_elim
    (λ (more : m.active < p.address / 64). inr (omega arith))
    (λ (not_more : p.address / 64 ≤ m.active).
    let segment : p.address / 64 ≡ m.active = omega arith in
    let at = expects_in m m.active p.address b.told b.summary segment in
    ⊎_elim
    (λ (before : p.address < next_address m). ⊎_elim
    (λ (inner : next_address m < p.address + 1 + length b.told.entries).
    absurd (none_within m m.active p.address (next_address m) b.told f.kind at.0 at.1 b.summary.told before inner
    ready.pending))
    (λ (past : p.address + 1 + length b.told.entries ≤ next_address m). inl (omega arith))
    (cases_lt (next_address m) (p.address + 1 + length b.told.entries)))
    (λ (behind : next_address m ≤ p.address).
    absurd (none_behind m [] p.address b.told ready behind (omega arith) b.summary))
    (cases_lt p.address (next_address m)))
    (cases_lt m.active (p.address / 64)))
    (cases_lt (p.address / 64) m.active)

-- ---- a partial segment is written

-- earlier addresses of a segment are older too
pub older_before : (m : SegmentMemory) (a b : ℕ) → IsOlder m a → first_of (a / 64) ≤ b → b ≤ a → IsOlder m b
older_before m a b older from low = ⊎_elim
    (λ (before : a < next_address m). inl (omega arith))
    (λ (beyond : m.active * 64 + 64 ≤ a). inr (omega arith))
    older

module _ (m n : SegmentMemory) (t : Told) (f : IsFindable m t.serial) (w : WritesPartial m n t) where
  new_kind : has_serials n ≡ true
  new_kind = w.extends.serials ∙ f.kind

  -- the log expects the new summary
  pub expects_new : expected_at n m.active (next_address m) ≡ Some []
  expects_new = expected_at-same m n m.active (next_address m) w.extends.serials (λ b from below. w.extends.blocks b (inl below))
      ∙ w.ready.pending

  pub summary_back : (a : ℕ) (u : Told) → IsSummaryAt n a u → IsSummaryAt m a u ⊎ ((a ≡ next_address m) × (u ≡ t))
  summary_back a u p =
      let laid = f.laid_out in
      let begun = laid.begun in
      let within = laid.within in
      let active = w.extends.active in
      let grown = w.grown in
      let fit = w.again.fit in
      ⊎_elim
      (λ (before : a < next_address m). inl (older_summary m n a u w.extends (inl before) p))
      (λ (from : next_address m ≤ a). ⊎_elim
      (λ (below : a < m.active * 64 + 64). ⊎_elim
      (λ (more : next_address m < a).
      let segment : a / 64 ≡ m.active = omega arith in
      let at = expects_in n m.active a u p segment in
      ⊎_elim
      (λ (inner : a < next_address m + 1 + length t.entries).
      absurd (none_within n m.active (next_address m) a t new_kind (omega arith) expects_new w.told more inner at.1))
      (λ (past : next_address m + 1 + length t.entries ≤ a).
      absurd (none_behind n [] a u w.again (omega arith) (omega arith) p))
      (cases_lt a (next_address m + 1 + length t.entries)))
      (λ (not_more : a ≤ next_address m).
      let here : a ≡ next_address m = omega arith in
      inr (here, same_Some u t (sym p.told ∙ ap (λ (b : ℕ). told_in (block_at n b)) here ∙ w.told)))
      (cases_lt (next_address m) a))
      (λ (beyond : m.active * 64 + 64 ≤ a). inl (older_summary m n a u w.extends (inr beyond) p))
      (cases_lt a (m.active * 64 + 64)))
      (cases_lt a (next_address m))

  summary_stays : (a : ℕ) (u : Told) → IsOlder m a → IsSummaryAt m a u → IsSummaryAt n a u
  summary_stays a u older p =
      same_summary n m a u (sym w.extends.segments) (sym w.extends.serials)
      (λ b from low. sym (w.extends.blocks b (older_before m a b older from low))) p

  all_whole : AreWhole n
  all_whole = record {
    last = λ a u p. ⊎_elim
        (λ (was : IsSummaryAt m a u). f.whole.last a u was)
        (λ (new : (a ≡ next_address m) × (u ≡ t)). ap (λ (v : Told). ends_in_inodes v.entries) new.1 ∙ w.last)
        (summary_back a u p);
    record_there = λ a u p. ⊎_elim
        (λ (was : IsSummaryAt m a u).
        let older = older_block m t.serial (partial_at a u) (length u.entries) f w.ready (begun_at m a u was) (omega arith) in
        has_record-same m n (a + length u.entries) (w.extends.blocks (a + length u.entries) older)
        ∙ f.whole.record_there a u was)
        (λ (new : (a ≡ next_address m) × (u ≡ t)).
        ap (λ (b : ℕ). has_record n (b + length u.entries)) new.0
        ∙ ap (λ (v : Told). has_record n (next_address m + length v.entries)) new.1 ∙ w.record_there)
        (summary_back a u p);
  }

  -- a block of a partial segment that was there
  pub older_in : (p : PartialSegment) (a : ℕ) → IsBegun m p → p.address < a → a ≤ p.address + p.count → IsOlder m a
  older_in p a b behind within =
      let k : ℕ = a - p.address in
      let at : p.address + k ≡ a = omega arith in
      subst (IsOlder m) at (older_block m t.serial p k f w.ready b (omega arith))

  named_stays : (r : RecordPlace) → IsNamed m r → IsNamed n r
  named_stays r is =
      let p = is.segment in
      let b = is.begun in
      let older = older_in p r.address b is.behind is.within in
      let none : p.address + 0 ≡ p.address = omega arith in
      let start : IsOlder m p.address = subst (IsOlder m) none (older_block m t.serial p 0 f w.ready b (omega arith)) in
      record {
        segment = p;
        begun = record {
          told = b.told;
          summary = summary_stays p.address b.told start b.summary;
          serial = b.serial;
          count = b.count;
        };
        serial = is.serial;
        behind = is.behind;
        within = is.within;
        entry = is.entry;
        named = w.extends.entries r.address older ∙ is.named;
        inodes = is.inodes;
        slot = is.slot;
        fields = is.fields;
        read = ap (λ (block : List ℕ). fields_in (slot_of block r.slot)) (w.extends.blocks r.address older) ∙ is.read;
        number = is.number;
        version = is.version;
      }

  named_back : (r : RecordPlace) → IsNamed n r → IsNamed m r ⊎ (r.serial ≡ t.serial)
  named_back r is =
      let p = is.segment in
      let b = is.begun in
      ⊎_elim
      (λ (was : IsSummaryAt m p.address b.told).
      let begun : IsBegun m p = record { told = b.told; summary = was; serial = b.serial; count = b.count } in
      let older = older_in p r.address begun is.behind is.within in
      inl (record {
        segment = p;
        begun = begun;
        serial = is.serial;
        behind = is.behind;
        within = is.within;
        entry = is.entry;
        named = sym (w.extends.entries r.address older) ∙ is.named;
        inodes = is.inodes;
        slot = is.slot;
        fields = is.fields;
        read = ap (λ (block : List ℕ). fields_in (slot_of block r.slot)) (sym (w.extends.blocks r.address older)) ∙ is.read;
        number = is.number;
        version = is.version;
      }))
      (λ (new : (p.address ≡ next_address m) × (b.told ≡ t)).
      inr (is.serial ∙ sym b.serial ∙ ap (λ (u : Told). u.serial) new.1))
      (summary_back p.address b.told b.summary)

  -- what was there has a lower serial
  lower : (r : RecordPlace) → IsNamed m r → r.serial < t.serial
  lower r is =
      let b = is.begun in
      let low = f.rising.below is.segment.address b.told b.summary in
      let serial = is.serial in
      let told = b.serial in
      omega arith

pub writes_whole : WritesWhole
writes_whole m n t f w = all_whole m n t f w

pub writes_keep : WritesKeep
writes_keep m n t number s f w latest none = record {
  named = named_stays m n t f w s latest.named;
  number = latest.number;
  top = λ r named same. ⊎_elim
      (λ (was : IsNamed m r). latest.top r was same)
      (λ (new : r.serial ≡ t.serial). absurd (none r named same new))
      (named_back m n t f w r named);
}

pub writes_latest : WritesLatest
writes_latest m n t number s f w named number_is serial top = record {
  named = named;
  number = number_is;
  top = λ r found same. ⊎_elim
      (λ (was : IsNamed m r). let low = lower m n t f w r was in inl (omega arith))
      (λ (new : r.serial ≡ t.serial). inr (new ∙ sym serial, top r found same new))
      (named_back m n t f w r found);
}

-- ---- a segment is opened

module _ (m : SegmentMemory) (next segment : ℕ) (f : IsFindable m next) (inside : segment < m.segments) where
  opened_back : (a : ℕ) (u : Told) → IsSummaryAt (opened m segment) a u → (a / 64 ≢ segment) × IsSummaryAt m a u
  opened_back a u p =
      let other : a / 64 ≢ segment = λ here.
      let behind = subst (λ (s : ℕ). first_of s ≤ a) here p.behind in
      no_summary (opened m segment) a u (block_at-opened m segment f.laid_out inside a behind (omega arith)) p in (
        other,
        same_summary m (opened m segment) a u refl refl
            (λ b from low. block_at-opened_apart m segment f.laid_out inside b (λ here. other (omega arith))) p,
      )

  opened_stays : (a : ℕ) (u : Told) → a / 64 ≢ segment → IsSummaryAt m a u → IsSummaryAt (opened m segment) a u
  opened_stays a u other p =
      same_summary (opened m segment) m a u refl refl
      (λ b from low. sym (block_at-opened_apart m segment f.laid_out inside b (λ here. other (omega arith)))) p

  opened_whole : AreWhole (opened m segment)
  opened_whole = record {
    last = λ a u p. f.whole.last a u (opened_back a u p).1;
    record_there = λ a u p.
        let was = opened_back a u p in
        let here = block_inside m next (partial_at a u) (length u.entries) f (begun_at m a u was.1) (omega arith) in
        has_record-same m (opened m segment) (a + length u.entries)
        (block_at-opened_apart m segment f.laid_out inside (a + length u.entries) (λ is. was.0 (sym here ∙ is)))
        ∙ f.whole.record_there a u was.1;
  }

  -- a record stands in the segment of its summary
  same_segment : (p : PartialSegment) (a : ℕ) → IsBegun m p → p.address < a → a ≤ p.address + p.count → a / 64 ≡ p.address / 64
  same_segment p a b behind within =
      let k : ℕ = a - p.address in
      let at : p.address + k ≡ a = omega arith in
      subst (λ (n : ℕ). n / 64 ≡ p.address / 64) at (block_inside m next p k f b (omega arith))

  opened_named : (r : RecordPlace) → IsNamed (opened m segment) r → IsNamed m r
  opened_named r is =
      let p = is.segment in
      let b = is.begun in
      let was = opened_back p.address b.told b.summary in
      let begun : IsBegun m p = record { told = b.told; summary = was.1; serial = b.serial; count = b.count } in
      let same = same_segment p r.address begun is.behind is.within in
      let other : r.address / 64 ≢ segment = λ here. was.0 (sym same ∙ here) in
      record {
        segment = p;
        begun = begun;
        serial = is.serial;
        behind = is.behind;
        within = is.within;
        entry = is.entry;
        named = sym (entry_at-opened_other m segment f.laid_out inside r.address other) ∙ is.named;
        inodes = is.inodes;
        slot = is.slot;
        fields = is.fields;
        read = ap (λ (block : List ℕ). fields_in (slot_of block r.slot))
            (sym (block_at-opened_apart m segment f.laid_out inside r.address other)) ∙ is.read;
        number = is.number;
        version = is.version;
      }

  named_opened : (r : RecordPlace) → r.address / 64 ≢ segment → IsNamed m r → IsNamed (opened m segment) r
  named_opened r other is =
      let p = is.segment in
      let b = is.begun in
      let same = same_segment p r.address b is.behind is.within in
      let apart : p.address / 64 ≢ segment = λ here. other (same ∙ here) in
      record {
        segment = p;
        begun = record {
          told = b.told;
          summary = opened_stays p.address b.told apart b.summary;
          serial = b.serial;
          count = b.count;
        };
        serial = is.serial;
        behind = is.behind;
        within = is.within;
        entry = is.entry;
        named = entry_at-opened_other m segment f.laid_out inside r.address other ∙ is.named;
        inodes = is.inodes;
        slot = is.slot;
        fields = is.fields;
        read = ap (λ (block : List ℕ). fields_in (slot_of block r.slot))
            (block_at-opened_apart m segment f.laid_out inside r.address other) ∙ is.read;
        number = is.number;
        version = is.version;
      }

pub opens_whole : OpensWhole
opens_whole m next segment f inside = opened_whole m next segment f inside

pub opens_keep : OpensKeep
opens_keep m next segment number s f inside latest other = record {
  named = named_opened m next segment f inside s other latest.named;
  number = latest.number;
  top = λ r named same. latest.top r (opened_named m next segment f inside r named) same;
}

-- ---- a new volume

pub fresh_is_findable : FreshIsFindable
fresh_is_findable segments inodes least most =
    let m = fresh_with (Some 1) segments inodes in
    let rising : IsRisingTo m 1 = (rising-fresh (Some 1) segments inodes (omega arith)).to 1 refl (omega arith) in
    let none : (a : ℕ) (t : Told) → IsSummaryAt m a t → ⊥ = λ a t p.
    let low = rising.below a t p in
    let some = told_some (block_at m a) t p.told in
    absurd (omega arith) in
    record {
      laid_out = subst IsLaidOut (fresh_is (Some 1) segments inodes (omega arith))
          (fresh_laid_out (Some 1) segments inodes (omega arith, omega arith) (omega arith) (omega arith));
      kind = refl;
      rising = rising;
      whole = record {
        last = λ a t p. absurd (none a t p);
        record_there = λ a t p. absurd (none a t p);
      };
    }
