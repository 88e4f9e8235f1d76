use Rattle.std.proofs.Common.{◌≡◌, ℕ, ◌-◌, ◌<◌, List, [], ◌∷◌, Some, true, option_map, length, drop, take, refl, sym, ap, subst, ◌∙◌, arith}
use Rattle.lfs_segments.specs.Log.{entry_at}
use Rattle.lfs_segments.specs.Memory.{SegmentMemory, block_at, next_address}
use Rattle.lfs_recovery.specs.Whole.{has_record}
use Rattle.lfs_found.proofs.RecoverableLemmas.{has_record-some}
use Rattle.lfs_segwrite.specs.Recording.{AreNoted}
use Rattle.lfs_staging.specs.Staging.{IsStaged}
use Rattle.lfs_segwrite.proofs.PlacedLemmas.{records_noted}
use Rattle.lfs_segwrite.proofs.RecordsLemmas.{recording_begins, recording_more, record_stands}
use Rattle.lfs_segwrite.proofs.records.land_records.Goals as goal
use Rattle.std.specs.List.{slice_get}
use Rattle.std.proofs.lemmas.List.{length-drop, length-take}
use Rattle.lfs_inodes.specs.declared.inode.Inode.{Inode}
use Rattle.lfs_inodes.specs.Reading.{fields_in, fields_of}
use Rattle.lfs_inodes.specs.Slots.{slot_of}

pub loop-parts-init : goal.loop-parts-init
loop-parts-init c =
    recording_begins c.args.parts.now c.append_block-address.new.parts c.saturating_sub-first.result
    c.append_block-address.result _ c.append_block-address.ensures.kept
    c.requires.staged c.append_block-address.ensures.put (omega arith) (omega arith)

pub note_landed-requires-clause-stands : goal.note_landed-requires-clause-stands
note_landed-requires-clause-stands c = λ front v items.
    let first = c.saturating_sub-first.result in
    let waiting = c.args.parts.now.waiting in
    let begins : length waiting - 4 ≡ first = omega arith in
    let same : c.as_slice.result.now ≡ drop first waiting = c.as_slice.ensures.value ∙ c.oldest-oldest.ensures
    ∙ ap (λ n. drop n waiting) begins in
    let test = c.loop-parts-test.true in
    record_stands c.args.parts.now c.append_block-address.new.parts c.loop-parts.parts first
    c.append_block-address.result _ _ _ front v
    c.requires.staged.whole.parts.laid_out c.append_block-address.ensures.put
    (c.append_block-address.ensures.named _ _ c.requires.expected.expects)
    same c.as_slice.ensures.fits c.packed-block.ensures.reading c.packed-block.ensures.records c.loop-parts.invariant
    (omega (arith, c.len-in-loop-parts.ensures)) (omega (arith, c.len-in-loop-parts-2.ensures)) items

pub loop-parts-preserved : goal.loop-parts-preserved
loop-parts-preserved c =
    recording_more c.args.parts.now c.append_block-address.new.parts c.loop-parts.parts c.note_landed.new.parts
    c.saturating_sub-first.result c.append_block-address.result
    c.loop-parts.invariant (omega arith) c.note_landed.ensures.staged c.note_landed.ensures.advances
    c.note_landed.ensures.waiting c.note_landed.ensures.cache
    c.note_landed.ensures.memory

pub returns-clause-advances : goal.returns-clause-advances
returns-clause-advances c = λ from low. c.loop-parts.invariant.advances from
    (let end = c.append_block-address.ensures.put.end in omega arith)

pub returns-clause-next : goal.returns-clause-next
returns-clause-next c = ap (λ (m : SegmentMemory). next_address m) c.loop-parts.invariant.memory
    ∙ c.append_block-address.ensures.next

first_some : (vs : List Inode) → 0 < length vs → (v : Inode) × (option_map fields_of (slice_get vs 0) ≡ Some (fields_of v))
first_some [] some = absurd (omega arith)
first_some (v ∷ vs) some = (v, refl)

pub returns-clause-first : goal.returns-clause-first
returns-clause-first c =
    let p = c.args.parts.now in
    let mid = c.append_block-address.new.parts in
    let put = c.append_block-address.ensures.put in
    let waiting = p.waiting in
    let inodes = c.as_slice.result.now in
    let some = c.requires.some in
    let same : inodes ≡ drop (length waiting - 4) waiting = c.as_slice.ensures.value ∙ c.oldest-oldest.ensures in
    let long : length inodes ≡ length waiting - (length waiting - 4) = ap (λ (vs : List Inode). length vs) same
    ∙ length-drop (length waiting - 4) waiting in
    let first = first_some inodes (omega arith) in
    let read : fields_in (slot_of (block_at mid.log.memory c.append_block-address.result) 0) ≡ Some (fields_of first.0) =
    ap (λ (b : List ℕ). fields_in (slot_of b 0)) put.written ∙ c.packed-block.ensures.reading 0 (omega arith) ∙ first.1 in
    let stands : has_record mid.log.memory c.append_block-address.result ≡ true =
    has_record-some mid.log.memory c.append_block-address.result (fields_of first.0) read in
    let there : has_record mid.log.memory (next_address p.log.memory) ≡ true =
    subst (λ (a : ℕ). has_record mid.log.memory a ≡ true) put.end stands in
    subst (λ (m : SegmentMemory). has_record m (next_address p.log.memory) ≡ true) (sym c.loop-parts.invariant.memory) there

pub returns-clause-noted : goal.returns-clause-noted
returns-clause-noted c =
    let p = c.args.parts.now in
    let q = c.loop-parts.parts in
    let put = c.append_block-address.ensures.put in
    let address = c.append_block-address.result in
    let h = c.loop-parts.invariant in
    let first = c.saturating_sub-first.result in
    let least = h.least in
    let taken = ap (λ (vs : List Inode). length vs) h.items ∙ length-take (length q.waiting) p.waiting in
    let test = c.loop-parts-test.false in
    let count : length q.waiting ≡ first = omega (arith, c.len-in-loop-parts.ensures) in
    let begins : length p.waiting - 4 ≡ first = omega arith in
    let same : c.as_slice.result.now ≡ drop first p.waiting = c.as_slice.ensures.value ∙ c.oldest-oldest.ensures
    ∙ ap (λ n. drop n p.waiting) begins in
    let end : address ≡ next_address p.log.memory = put.end in
    subst (AreNoted q) end
    (records_noted p q address first _ _ c.requires.staged
    (subst (IsStaged q) (omega arith) h.staged) (h.advances address (omega arith)) put.somewhere
    (ap (λ (m : SegmentMemory). next_address m) h.memory ∙ c.append_block-address.ensures.next ∙ omega arith)
    (ap (λ (m : SegmentMemory). block_at m address) h.memory ∙ put.written)
    (ap (λ (m : SegmentMemory). entry_at m address) h.memory
    ∙ c.append_block-address.ensures.named _ _ c.requires.expected.expects)
    same (h.items ∙ ap (λ n. take n p.waiting) count) c.packed-block.ensures.records c.packed-block.ensures.reading)
