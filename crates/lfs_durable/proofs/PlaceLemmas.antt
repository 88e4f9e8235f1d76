-- Each number in use has a place in the log (`placed`): its record is there, as none waits, and the label, block 0, has none
-- (LabelLemmas). So its latest record stands at that place, and is the newest that recovery finds (`there`); at most one
-- is (`newest_one`). Read by recovery it is the store's (`read_there`), since the place lies in the volume.
use Rattle.std.proofs.Common.{◌≡◌, ◌≢◌, ℕ, ◌+◌, ◌*◌, ◌<◌, true, List, length}
use Rattle.std.proofs.Common.{Option, None, Some, IsSome, sym, ap, subst, ◌∙◌, arith}
use Rattle.std.proofs.lemmas.Bool.{cond-false, cond-true, false≢true, lt-ltb, ne_eqb}
use Rattle.lfs_types.specs.Blocks.{zero_block}
use Rattle.lfs_ifile.specs.declared.inode.InodeRow.{InodeRow}
use Rattle.lfs_ifile.specs.Inode.{fresh_row}
use Rattle.lfs_ifile.specs.Tables.{row_of}
use Rattle.lfs_inodes.specs.Reading.{fields_in}
use Rattle.lfs_inodes.specs.Slots.{slot_of}
use Rattle.lfs_segments.specs.Memory.{SegmentMemory, block_at}
use Rattle.lfs_recovery.specs.declared.places.RecordPlace.{RecordPlace}
use Rattle.lfs_recovery.specs.Newest.{IsNewest, slot_place}
use Rattle.lfs_found.specs.Written.{IsFindable}
use Rattle.lfs_found.proofs.NamedLemmas.{finds_newest, latest_is_one}
use Rattle.lfs_log.specs.Parts.{record_place}
use Rattle.lfs_parts.specs.declared.parts.Parts.{Parts}
use Rattle.lfs_parts.specs.View as view
use Rattle.lfs_parts.specs.View.{waiting_in}
use Rattle.lfs_inodes.specs.declared.inode.Inode.{Inode}
use Rattle.lfs_parts.proofs.SameLogLemmas.{used_low}
use Rattle.lfs_parts.proofs.ViewLemmas.{record_of-logged}
use Rattle.lfs_segwrite.proofs.OrderedLemmas.{finds_in_use}
use Rattle.lfs_reach.specs.Reach.{bytes_at, record_of}
use Rattle.lfs_durable.specs.Names.{FindsRecordOfEach, IsDurable}
use Rattle.lfs_durable.proofs.BlockLemmas.{inside}
use Rattle.lfs_durable.proofs.LabelLemmas.{label_empty}

-- ---- two newest records are one
pub newest_one : (m : SegmentMemory) (next n : ℕ) (o : Option RecordPlace) (s : RecordPlace) → IsFindable m next
    → IsNewest m n o → IsNewest m n (Some s) → o ≡ Some s
newest_one m next n None s f none is = absurd (none s is.0 is.1.0)
newest_one m next n (Some r) s f a b =
    ap Some (latest_is_one m n r s ((finds_newest m next n r f.kind f.rising f.whole).0 a)
    ((finds_newest m next n s f.kind f.rising f.whole).0 b))

-- the newest record of a number stands where the inode map has it
pub record StandsThere (p : Parts) (number : ℕ) : Type 0 where
  pub newest : RecordPlace
  pub found : IsNewest p.log.memory number (Some newest)
  pub address : newest.address ≡ (row_of p.log.tables number).address
  pub slot : newest.slot ≡ (row_of p.log.tables number).slot

module _ (p : Parts) (d : IsDurable p) (number : ℕ) (used : (row_of p.log.tables number).used ≡ true) where
  abbrev m : SegmentMemory
  m = p.log.memory

  abbrev row : InodeRow
  row = row_of p.log.tables number

  none_waits : waiting_in p.waiting number ≡ None
  none_waits = ap (λ (vs : List Inode). waiting_in vs number) d.flushed.no_record

  -- the record is the one in the log
  pub logged : view.record_of p number ≡ fields_in (slot_of (block_at m row.address) row.slot)
  logged = record_of-logged p number _ (cond-true _ _ _ used) none_waits

  pub low_slot : row.slot < 4
  low_slot = (d.store.whole.parts.formed.each_row number fresh_row (used_low p number used)).slot

  pub some_address : row.address ≢ 0
  some_address none =
      let nothing : view.record_of p number ≡ None = logged
      ∙ ap (λ (a : ℕ). fields_in (slot_of (block_at m a) row.slot)) none
      ∙ ap (λ (b : List ℕ). fields_in (slot_of b row.slot)) d.labelled
      ∙ label_empty m.segments (length p.log.tables.rows) row.slot low_slot in
      absurd (false≢true (subst IsSome nothing (d.store.whole.recorded number used)))

  pub place_is : record_place p.log.tables number ≡ 4 * row.address + row.slot
  unfolding record_place
  place_is = cond-false _ _ _ (ne_eqb row.address 0 some_address)

  pub placed : record_place p.log.tables number ≢ 0
  placed none = let at = place_is in let some = some_address in some_address (omega arith)

  pub there : StandsThere p number
  there =
      let h = d.ordered.each d.next number d.serial d.bound (used_low p number used) placed in
      let s = h.record_there in
      let f : IsFindable m d.next = d.recoverable.to d.next d.serial d.bound in
      let own = h.latest.named.slot in
      let slot = low_slot in
      let at : slot_place s ≡ 4 * row.address + row.slot = h.here ∙ place_is in
      record {
        newest = s;
        found = (finds_newest m d.next number s f.kind f.rising f.whole).1 h.latest;
        address = omega arith;
        slot = omega arith;
      }

  -- recovery reads the record that the store has, in each memory that has its block
  module _ (n : SegmentMemory) (segments : n.segments ≡ m.segments) (kept : block_at n row.address ≡ block_at m row.address) where
    read_here : (s : RecordPlace) → s.address ≡ row.address → s.slot ≡ row.slot
        → record_of n (Some s) ≡ view.record_of p number
    unfolding record_of
    read_here s address slot =
        let formed = d.store.whole.parts.formed.each_row number fresh_row (used_low p number used) in
        let row_below = formed.address in
        let agree = d.store.whole.parts.agree in
        let low = low_slot in
        let some : s.address ≢ 0 = λ none. some_address (sym address ∙ none) in
        let own : s.slot < 4 = omega arith in
        let below : s.address < n.segments * 64 = omega arith in
        let bytes : bytes_at n s.address ≡ block_at n s.address =
        inside n s.address below ∙ cond-false _ zero_block (block_at n s.address) (ne_eqb s.address 0 some) in
        cond-true _ (fields_in (slot_of (bytes_at n s.address) s.slot)) None (lt-ltb s.slot 4 own)
        ∙ ap (λ (b : List ℕ). fields_in (slot_of b s.slot)) bytes
        ∙ ap (λ (a : ℕ). fields_in (slot_of (block_at n a) s.slot)) address
        ∙ ap (λ (b : List ℕ). fields_in (slot_of b s.slot)) kept
        ∙ ap (λ (k : ℕ). fields_in (slot_of (block_at m row.address) k)) slot ∙ sym logged

    pub read_there : (o : Option RecordPlace) → IsNewest m number o → record_of n o ≡ view.record_of p number
    read_there o newest =
        let s = there in
        let f : IsFindable m d.next = d.recoverable.to d.next d.serial d.bound in
        ap (record_of n) (newest_one m d.next number o s.newest f newest s.found) ∙ read_here s.newest s.address s.slot

pub finds_record_of_each : FindsRecordOfEach
finds_record_of_each p number d used =
    finds_in_use p d.next number d.store d.recoverable d.ordered d.serial d.bound used (placed p d number used)
    (none_waits p d number used)
