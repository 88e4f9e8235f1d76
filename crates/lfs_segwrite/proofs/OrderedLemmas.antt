-- The inode map has each number's latest record: `flush_ordered` for `flushing::flush`, `opened_ordered` where a segment is
-- opened, `stays_ordered` where changes are staged; so recovery finds it (`finds_in_use`). A record with the serial of
-- what was written stands at its number's place (`noted_there`): the blocks before those of records are named otherwise
-- (`block_entry`). So a number that waited has its latest record there (`moved_latest`), and of one that didn't there is
-- none with that serial (`still_latest`).
use Rattle.std.proofs.Common.{◌≡◌, ◌≢◌, ℕ, ◌+◌, ◌-◌, ◌*◌, ◌/◌, ◌%◌, ◌<◌, ◌≤◌, inl, inr, Option, Some, None, is_some}
use Rattle.std.proofs.Common.{List, get_or, length, refl, sym, ap, subst, ◌∙◌, ⊎_elim, arith}
use Rattle.std.specs.Prelude.{if◌then◌else◌, ◌==◌}
use Rattle.std.proofs.lemmas.Bool.{cases_lt, cond-false, cond-true, eq-eqb, false≢true, ne_eqb}
use Rattle.lfs_ifile.specs.declared.inode.InodeRow.{InodeRow}
use Rattle.lfs_ifile.specs.declared.segment.SegState.TheVariants.{Clean}
use Rattle.lfs_ifile.specs.Inode.{fresh_row}
use Rattle.lfs_ifile.specs.Tables.{row_at, row_of}
use Rattle.lfs_inodes.specs.Reading.{Fields, fields_in}
use Rattle.lfs_inodes.specs.Slots.{slot_of}
use Rattle.lfs_cache.specs.declared.key.Key.{Key}
use Rattle.lfs_cache.specs.Contents.{IsLocked}
use Rattle.lfs_segments.specs.declared.entry.LogicalBlock.{LogicalBlock}
use Rattle.lfs_segments.specs.declared.entry.LogicalBlock.TheVariants as logical
use Rattle.lfs_segments.specs.declared.entry.LogicalBlock.TheVariants.{Inodes}
use Rattle.lfs_segments.specs.declared.entry.SummaryEntry.{SummaryEntry}
use Rattle.lfs_segments.specs.Entry.{unused}
use Rattle.lfs_segments.specs.Log.{IsOlder, entry_at}
use Rattle.lfs_segments.specs.Memory.{SegmentMemory, block_at, next_address}
use Rattle.lfs_recovery.specs.declared.places.RecordPlace.{RecordPlace}
use Rattle.lfs_recovery.specs.Newest.{slot_place}
use Rattle.lfs_recovery.proofs.LogLemmas.{map_some}
use Rattle.lfs_found.specs.Found.{IsLatest, IsNamed}
use Rattle.lfs_found.specs.Written.{IsFindable, IsRecoverable, WritesEntries, WritesPartial, next_told}
use Rattle.lfs_found.proofs.NamedLemmas.{finds_newest}
use Rattle.lfs_found.proofs.NewLemmas.{named_new, new_named, new_none}
use Rattle.lfs_found.proofs.RecoverableLemmas.{new_summary}
use Rattle.lfs_found.proofs.WrittenLemmas.{older_in, opens_keep, writes_keep, writes_latest}
use Rattle.lfs_bmap.specs.declared.blocks.FileBlock.TheVariants.{Record}
use Rattle.lfs_bmap.specs.Blocks.{block_with, code_of, file_block_of}
use Rattle.lfs_bmap.specs.Log.{IsPlaced, Owner}
use Rattle.lfs_bmap.specs.Owners.{owner_in}
use Rattle.lfs_bmap.proofs.BlockLemmas.{file_block_of-logical}
use Rattle.lfs_bmap.proofs.OwnerLemmas.{in_slot, owner_at-named}
use Rattle.lfs_log.specs.Names.{named_at, record_at, record_in, record_key}
use Rattle.lfs_log.specs.Parts.{LogParts, opened_parts, record_place, state_of}
use Rattle.lfs_log.proofs.NameLemmas.{named_at-entry}
use Rattle.lfs_parts.specs.declared.parts.Parts.{Parts}
use Rattle.lfs_parts.specs.Keys.{log_state}
use Rattle.lfs_parts.specs.Store.{IsStore}
use Rattle.lfs_parts.specs.View.{key_of, version_of}
use Rattle.lfs_parts.proofs.HeldLemmas.{locked_apart}
use Rattle.lfs_parts.proofs.SameLogLemmas.{used_low}
use Rattle.lfs_parts.proofs.ViewLemmas.{record_of-logged}
use Rattle.lfs_staging.specs.Changing.{StaysInLog}
use Rattle.lfs_staging.specs.Staging.{IsStaged}
use Rattle.lfs_segwrite.specs.Collecting.{entries_of}
use Rattle.lfs_segwrite.specs.Flushing.{Waits}
use Rattle.lfs_segwrite.specs.Ordered.{FindsInUse, HasLatest, IsOrdered}
use Rattle.lfs_segwrite.specs.Recording.{Advances, AreNoted}
use Rattle.lfs_segwrite.proofs.AdvanceLemmas.{cases_Waits}
use Rattle.lfs_segwrite.proofs.CollectingLemmas.{coded_entry}
use Rattle.lfs_segwrite.proofs.FlushLemmas.{ordered, ordered-length}
use Rattle.lfs_segwrite.proofs.OrderLemmas.{entries_of-block, in_order-locked}

-- ---- what the log names
code_inodes : (b : LogicalBlock) → code_of (file_block_of b) ≡ 0 → b ≡ Inodes
code_inodes (logical.Data index) h = absurd (omega arith)
code_inodes logical.Single h = absurd (omega arith)
code_inodes logical.Double h = absurd (omega arith)
code_inodes (logical.Child index) h = absurd (omega arith)
code_inodes logical.Inodes h = refl

-- a record that the log names stands in a block that its summary calls an inode block
record StandsIn (m : SegmentMemory) (a slot number version : ℕ) : Type 0 where
  pub entry : SummaryEntry
  pub named : entry_at m a ≡ Some entry
  pub inodes : entry.block ≡ Inodes
  pub fields : Fields
  pub read : fields_in (slot_of (block_at m a) slot) ≡ Some fields
  pub own_number : fields.attributes.number ≡ number
  pub own_version : fields.attributes.version ≡ version

read_in : (block : List ℕ) (slot : ℕ) (k : ℕ × ℕ) → record_in block slot ≡ Some k
    → (g : Fields) × ((fields_in (slot_of block slot) ≡ Some g) × (record_key g ≡ k))
unfolding record_in
read_in block slot k is = map_some record_key (fields_in (slot_of block slot)) k is

stands_in : (m : SegmentMemory) (place number version : ℕ)
    → named_at m place ≡ Some (record { number = number; version = version; code = 0 })
    → StandsIn m (place / 4) (place % 4) number version
unfolding named_at owner_in
stands_in m place number version is =
    let o : Owner = record { number = number; version = version; code = 0 } in
    let found = owner_at-named (entry_at m) (record_at m) place o is in
    let e : SummaryEntry = found.0 in
    let inodes : e.block ≡ Inodes = elim found.2 [
      | inl names ↦ code_inodes e.block names.code
      | inr of_record ↦ of_record.inodes
    ] in
    let a : ℕ = place / 4 in
    let slot : ℕ = place % 4 in
    let split : 4 * a + slot ≡ place = omega arith in
    let owned : owner_in Inodes e.number e.version slot (record_in (block_at m a) slot) ≡ Some o =
    ap (λ (b : LogicalBlock). owner_in b e.number e.version slot (record_in (block_at m a) slot)) (sym inodes)
    ∙ sym (named_at-entry m a slot e (block_at m a) (omega arith) found.1 refl) ∙ ap (named_at m) split ∙ is in
    let g = read_in (block_at m a) slot _ (in_slot (record_in (block_at m a) slot) o owned).0 in
    record {
      entry = e;
      named = found.1;
      inodes = inodes;
      fields = g.0;
      read = g.1.0;
      own_number = ap (λ (k : ℕ × ℕ). k.0) g.1.1;
      own_version = ap (λ (k : ℕ × ℕ). k.1) g.1.1;
    }

-- ---- what waits is written
-- a block of a file is named as one
block_entry : (p : Parts) (k : ℕ) → IsStaged p 0 → k < length p.cache.locked
    → (get_or (entries_of p) k unused).block ≡ Inodes → ⊥
block_entry p k staged low is =
    let d : Key = key_of 0 0 0 in
    let key = get_or (ordered p) k d in
    let long = ordered-length p in
    let locked : IsLocked key p.cache =
    (in_order-locked p.cache (locked_apart p.cache staged.whole.cache)).only k d (omega arith) in
    let h = staged.whole.coded key locked in
    let block : h.block ≡ Record = sym (coded_entry key h) ∙ sym (file_block_of-logical (block_with key.lbn.0))
    ∙ ap file_block_of (ap (λ (e : SummaryEntry). e.block) (sym (entries_of-block p k d unused low)) ∙ is) in
    h.other (sym h.coded ∙ ap code_of block)

module _ (p q : Parts) (from : ℕ) (staged : IsStaged p 0) (after : IsStaged q 0)
    (moves : Advances (next_address p.log.memory) p q)
    (first : from ≡ next_address p.log.memory + 1 + length p.cache.locked) (noted : AreNoted q from)
    (grown : next_address q.log.memory ≡ next_address p.log.memory + 1 + length (entries_of p))
    (w : WritesEntries p.log.memory q.log.memory (entries_of p)) where
  abbrev m : SegmentMemory
  m = p.log.memory

  abbrev n : SegmentMemory
  n = q.log.memory

  module _ (serial next : ℕ) (some : m.serial ≡ Some serial) (f : IsFindable m serial) (found : IsFindable n next) where
    wrote : WritesPartial m n (next_told m serial (entries_of p))
    wrote = w.whole serial some

    -- a record with the new serial stands at its number's place
    noted_there : (r : RecordPlace) → IsNamed n r → r.serial ≡ serial
        → (next_address m < r.address) × (r.address < next_address n) × ((log_state q).at r.number 0 ≡ slot_place r)
    noted_there r is same =
        let new = named_new m n (next_told m serial (entries_of p)) next f found wrote r is same in
        let behind = new.0 in
        let within = new.1 in
        let end : next_address n ≡ next_address m + 1 + length (entries_of p) = grown in
        let begins : from ≡ next_address m + 1 + length p.cache.locked = first in
        let low : from ≤ r.address = ⊎_elim
        (λ (less : r.address - (next_address m + 1) < length p.cache.locked). absurd (block_entry p
        (r.address - (next_address m + 1)) staged less new.2))
        (λ (past : length p.cache.locked ≤ r.address - (next_address m + 1)). omega arith)
        (cases_lt (r.address - (next_address m + 1)) (length p.cache.locked)) in
        let note = noted.each r.address r.slot is.fields low (omega arith) is.slot is.read in
        (behind, omega arith, ap (λ (k : ℕ). (log_state q).at k 0) is.number ∙ note.here)

    -- a number that waited has its latest record there
    moved_latest : (number : ℕ) → number < length p.log.tables.rows → (log_state q).at number 0 ≢ 0 → Waits p number 0
        → (Waits q number 0 → ⊥) → HasLatest q.log number
    moved_latest number low somewhere waits none =
        let place : ℕ = (log_state q).at number 0 in
        let numbers = moves.numbers in
        let moved = moves.moved number 0 low (omega arith) waits none in
        let from_place : next_address m ≤ place / 4 = moved.0 in
        let to_place : place / 4 < next_address n = moved.1 in
        let end : next_address n ≡ next_address m + 1 + length (entries_of p) = grown in
        let there = stands_in n place number (version_of q number) (after.log.keys number 0 (record {
          number_below = omega arith;
          code_below = omega arith;
          somewhere = somewhere;
        })).owned in
        let laid = after.whole.parts.laid_out in
        let behind : next_address m ≢ place / 4 = λ same. new_none m n (next_told m serial (entries_of p)) there.entry f laid
        wrote (ap (entry_at n) same ∙ there.named) in
        let g = there.fields in
        let s : RecordPlace = record {
          serial = serial;
          number = g.attributes.number;
          version = g.attributes.version;
          address = place / 4;
          slot = place % 4;
        } in
        let named : IsNamed n s = new_named m n (next_told m serial (entries_of p)) (place / 4) (place % 4) there.entry g
        staged.whole.parts.laid_out.begun laid wrote (omega arith) (omega arith) there.named there.inodes (omega arith)
        there.read in
        record {
          record_there = s;
          latest = writes_latest m n (next_told m serial (entries_of p)) number s f wrote named there.own_number refl
              (λ r is same_number same_serial.
              let at = noted_there r is same_serial in
              let here : (log_state q).at number 0 ≡ slot_place r = ap (λ k. (log_state q).at k 0) (sym same_number) ∙ at.2 in
              omega arith);
          here = omega arith;
          version = there.own_version;
        }

    -- one that didn't has the one that it had
    still_latest : (number : ℕ) → number < length p.log.tables.rows → (Waits p number 0 → ⊥) → HasLatest p.log number
        → HasLatest q.log number
    still_latest number low none was =
        let still : (log_state q).at number 0 ≡ (log_state p).at number 0 = moves.still number 0 low (omega arith) none in
        let s = was.record_there in
        let is_named = was.latest.named in
        let older : IsOlder m s.address = older_in m n (next_told m serial (entries_of p)) f wrote is_named.segment s.address
        is_named.begun is_named.behind is_named.within in
        let low_slot = is_named.slot in
        let active = moves.active in
        let within = after.whole.parts.laid_out.within in
        let here : slot_place s ≡ (log_state p).at number 0 = was.here in
        record {
          record_there = s;
          latest = writes_keep m n (next_told m serial (entries_of p)) number s f wrote was.latest
              (λ r is same_number same_serial.
              let at = noted_there r is same_serial in
              let place : (log_state q).at number 0 ≡ slot_place r = ap (λ k. (log_state q).at k 0) (sym same_number) ∙ at.2 in
              let slot = is.slot in
              let behind : next_address m < r.address = at.0 in
              let before : r.address < next_address n = at.1 in
              let same : r.address ≡ s.address = omega arith in
              ⊎_elim
              (λ (earlier : s.address < next_address m). absurd (omega arith))
              (λ (beyond : m.active * 64 + 64 ≤ s.address). absurd (omega arith))
              older);
          here = was.here ∙ sym still;
          version = was.version ∙ sym (moves.versions number);
        }

  pub flush_ordered : ((number : ℕ) → Waits q number 0 → ⊥) → IsRecoverable m → IsRecoverable n → IsOrdered p.log
      → IsOrdered q.log
  flush_ordered none was now order =
      record { each = λ next number is bound low somewhere. each m.serial refl next number is bound low somewhere }
    where
      each : (o : Option ℕ) → m.serial ≡ o → (next number : ℕ) → n.serial ≡ Some next → next < 4294967295
          → number < length q.log.tables.rows → record_place q.log.tables number ≢ 0 → HasLatest q.log number
      each None plain next number is bound low somewhere =
          absurd (false≢true (sym (ap (λ (o : Option ℕ). is_some o) plain) ∙ sym moves.serials
          ∙ ap (λ (o : Option ℕ). is_some o) is))
      each (Some serial) some next number is bound low somewhere =
          let found : IsFindable n next = now.to next is bound in
          let below : serial < next = found.rising.below (next_address m) (next_told m serial (entries_of p))
          (new_summary m n (next_told m serial (entries_of p)) staged.whole.parts.laid_out.begun
          after.whole.parts.laid_out (w.whole serial some)) in
          let f : IsFindable m serial = was.to serial some (omega arith) in
          let inside : number < length p.log.tables.rows = let numbers = moves.numbers in omega arith in
          elim (cases_Waits p number 0) [
            | inl waits ↦ moved_latest serial next some f found number inside somewhere waits (none number)
            | inr still ↦ still_latest serial next some f found number inside still
                (order.each serial number some (omega arith) inside
                (λ nowhere. somewhere (moves.still number 0 inside (omega arith) still ∙ nowhere)))
          ]

-- ---- a segment is opened
pub opened_ordered : (p : Parts) (s : ℕ) → IsStore p → s < p.log.memory.segments → state_of p.log.tables s ≡ Clean
    → IsRecoverable p.log.memory → IsOrdered p.log → IsOrdered (opened_parts p.log s)
unfolding record_place
opened_ordered p s store inside clean was order = record {
  each = λ next number is bound low somewhere.
      let h = order.each next number is bound low somewhere in
      let there = store.log.keys number 0 (record { number_below = low; code_below = omega arith; somewhere = somewhere }) in
      let r = h.record_there in
      let slot = h.latest.named.slot in
      let here : slot_place r ≡ (log_state p).at number 0 = h.here in
      record {
        record_there = r;
        latest = opens_keep p.log.memory next s number r (was.to next is bound) inside h.latest
            (λ same.
            let at : (log_state p).at number 0 / 256 ≡ s = omega arith in
            there.not_clean (ap (state_of p.log.tables) at ∙ clean));
        here = h.here;
        version = h.version;
      };
}

-- ---- changes are staged
pub stays_ordered : (a b : Parts) → StaysInLog a b → IsOrdered a.log → IsOrdered b.log
stays_ordered a b stays order = record {
  each = λ next number is bound low somewhere.
      let there : IsPlaced (log_state b) number 0 =
      record { number_below = low; code_below = omega arith; somewhere = somewhere } in
      let place : (log_state a).at number 0 ≡ (log_state b).at number 0 = stays.moves.places number 0 there tt in
      let numbers = stays.numbers in
      let h = order.each next number (ap (λ (m : SegmentMemory). m.serial) (sym stays.memory) ∙ is) bound (omega arith)
      (λ none. somewhere (sym place ∙ none)) in
      record {
        record_there = h.record_there;
        latest = subst (λ (m : SegmentMemory). IsLatest m number h.record_there) (sym stays.memory) h.latest;
        here = h.here ∙ place;
        version = h.version ∙ stays.moves.versions number 0 there tt;
      };
}

-- the same rows in the same memory
pub same_ordered : (a b : LogParts) → b.memory ≡ a.memory → b.tables.rows ≡ a.tables.rows → IsOrdered a → IsOrdered b
unfolding record_place
same_ordered a b memory rows order = record {
  each = λ next number is bound low somewhere.
      let place : record_place b.tables number ≡ record_place a.tables number = ap (λ (rs : List InodeRow).
      if (row_at rs number).address == 0 then 0 else 4 * (row_at rs number).address + (row_at rs number).slot) rows in
      let h = order.each next number (ap (λ (m : SegmentMemory). m.serial) (sym memory) ∙ is) bound
      (subst (λ (rs : List InodeRow). number < length rs) rows low) (λ none. somewhere (place ∙ none)) in
      record {
        record_there = h.record_there;
        latest = subst (λ (m : SegmentMemory). IsLatest m number h.record_there) (sym memory) h.latest;
        here = h.here ∙ sym place;
        version = h.version ∙ ap (λ (rs : List InodeRow). (row_at rs number).version) (sym rows);
      };
}

-- ---- what recovery finds of a number in use
pub finds_in_use : FindsInUse
unfolding record_place
finds_in_use p next number store was order is bound used somewhere none =
    let low = used_low p number used in
    let row = row_of p.log.tables number in
    let h = order.each next number is bound low somewhere in
    let s = h.record_there in
    let f : IsFindable p.log.memory next = was.to next is bound in
    let slot = (store.whole.parts.formed.each_row number fresh_row low).slot in
    let own = h.latest.named.slot in
    let some : row.address ≢ 0 = λ zero_address. somewhere (cond-true _ _ _ (eq-eqb row.address 0 zero_address)) in
    let at : slot_place s ≡ 4 * row.address + row.slot = h.here ∙ cond-false _ _ _ (ne_eqb row.address 0 some) in
    let address : s.address ≡ row.address = omega arith in
    let unit : s.slot ≡ row.slot = omega arith in
    record {
      newest = s;
      found = (finds_newest p.log.memory next number s f.kind f.rising f.whole).1 h.latest;
      version = h.version;
      same = ap (λ (a : ℕ). fields_in (slot_of (block_at p.log.memory a) s.slot)) address
          ∙ ap (λ (k : ℕ). fields_in (slot_of (block_at p.log.memory row.address) k)) unit
          ∙ sym (record_of-logged p number _ (cond-true _ _ _ used) none);
    }
