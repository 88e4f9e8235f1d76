use Rattle.std.proofs.Common.{rules, ◌≡◌, ◌≢◌, ◌+◌, ◌-◌, ◌<◌, List, length, sym, ap, ◌∙◌, subst, arith}
use Rattle.lfs_inodes.specs.declared.inode.Inode.{Inode}
use Rattle.lfs_cache.specs.Contents.{Contents}
use Rattle.lfs_segments.specs.declared.entry.SummaryEntry.{SummaryEntry}
use Rattle.lfs_segments.specs.Log.{Expects}
use Rattle.lfs_segments.specs.Memory.{block_at, next_address}
use Rattle.lfs_segments.specs.Serial.{IsSummaryWith}
use Rattle.lfs_recovery.specs.Whole.{has_record}
use Rattle.lfs_found.specs.Written.{IsRecoverable, WritesEntries}
use Rattle.lfs_found.proofs.RecoverableLemmas.{partial_entries, recoverable_rises, writes_recoverable}
use Rattle.lfs_segwrite.specs.Collecting.{blocks_of_entries, entries_of}
use Rattle.lfs_segwrite.specs.Recording.{Advances}
use Rattle.lfs_segwrite.proofs.AdvanceLemmas.{Advances-refl, Advances-trans}
use Rattle.lfs_segwrite.proofs.CollectingLemmas.{entries_of-length}
use Rattle.lfs_segwrite.proofs.FlushLemmas.{advanced_extends, blocks_some, entries_more, flush_moves, none_waits, records_last, records_some}
use Rattle.lfs_segwrite.proofs.OrderedLemmas.{flush_ordered}
use Rattle.lfs_segwrite.proofs.OrderLemmas.{entries_of-same}
use Rattle.lfs_segwrite.proofs.flushing.flush.Goals as goal

pub land_blocks-requires-clause-all : goal.land_blocks-requires-clause-all
land_blocks-requires-clause-all c =
    c.as_slice-2.ensures.value ∙ c.to_land-list.ensures.entries
    ∙ sym (entries_of-same c.args.parts.now c.begin_partial.new.parts c.begin_partial.ensures.cache
    c.begin_partial.ensures.waiting)

pub land_blocks-requires-clause-expected : goal.land_blocks-requires-clause-expected
land_blocks-requires-clause-expected c =
    subst (Expects c.begin_partial.new.parts.log.memory)
    (c.as_slice.ensures.value ∙ c.to_land-list.ensures.entries
    ∙ sym (entries_of-same c.args.parts.now c.begin_partial.new.parts c.begin_partial.ensures.cache
    c.begin_partial.ensures.waiting)) c.begin_partial.ensures.expects

entries_some : (c : goal.After-land_all_records) → 0 < length (entries_of c.args.parts.now)
entries_some c =
    let p = c.args.parts.now in
    let some : blocks_of_entries (entries_of p) ≢ 0 =
    λ e. c.if-blocks_to_write-eq0.false (c.blocks_to_write.ensures.blocks ∙ e) in
    entries_more (length (entries_of p)) some

-- the log ends behind the summary and the blocks of all entries
ends_at : (c : goal.After-land_all_records) → next_address c.land_all_records.new.parts.log.memory
    ≡ next_address c.args.parts.now.log.memory + 1 + length (entries_of c.args.parts.now)
ends_at c =
    let p = c.args.parts.now in
    let many = entries_of-length p in
    let first = c.begin_partial.ensures.next in
    let second = c.land_blocks.ensures.next in
    let last = c.land_all_records.ensures.next in
    let frames : length c.begin_partial.new.parts.cache.locked
    ≡ length p.cache.locked = ap (λ (s : Contents). length s.locked) c.begin_partial.ensures.cache in
    let records : length c.land_blocks.new.parts.waiting ≡ length p.waiting = c.land_blocks.ensures.waiting
    ∙ ap (λ (w : List Inode). length w) c.begin_partial.ensures.waiting in
    omega arith

grown_is : (c : goal.After-land_all_records) → next_address c.land_all_records.new.parts.log.memory
    ≡ next_address c.args.parts.now.log.memory + blocks_of_entries (entries_of c.args.parts.now)
grown_is c =
    let some : blocks_of_entries (entries_of c.args.parts.now) ≢ 0 =
    λ e. c.if-blocks_to_write-eq0.false (c.blocks_to_write.ensures.blocks ∙ e) in
    let all = blocks_some (length (entries_of c.args.parts.now)) some in
    let ends = ends_at c in
    omega arith

-- they are a whole partial segment
written_whole : (c : goal.After-land_all_records) → 0 < length c.args.parts.now.waiting
    → WritesEntries c.args.parts.now.log.memory c.land_all_records.new.parts.log.memory (entries_of c.args.parts.now)
written_whole c some =
    let p = c.args.parts.now in
    let b = c.begin_partial.new.parts in
    let q = c.land_all_records.new.parts in
    let m = p.log.memory in
    let from = next_address b.log.memory in
    let next = c.begin_partial.ensures.next in
    let landed = c.land_blocks.ensures.advances from (omega arith) in
    let recorded = c.land_all_records.ensures.advances from landed.next in
    let both = Advances-trans from b c.land_blocks.new.parts q landed recorded in
    let parts = c.begin_partial.ensures.staged.whole.parts in
    let all : c.as_slice.result.now ≡ entries_of p = c.as_slice.ensures.value ∙ c.to_land-list.ensures.entries in
    let grown : next_address q.log.memory ≡ next_address m + 1 + length (entries_of p) = ends_at c in
    let last : next_address m + length (entries_of p) ≡ next_address q.log.memory - 1 = omega arith in
    let records : length c.land_blocks.new.parts.waiting ≡ length p.waiting = c.land_blocks.ensures.waiting
    ∙ ap (λ (w : List Inode). length w) c.begin_partial.ensures.waiting in
    partial_entries m b.log.memory q.log.memory (entries_of p) c.requires.ready c.land_all_records.ensures.ready
    parts.laid_out c.begin_partial.ensures.extends (advanced_extends b q both) next
    (subst (λ (es : List SummaryEntry). IsSummaryWith m.serial (block_at b.log.memory (next_address m)) m.active m.fill es)
    all c.begin_partial.ensures.summary) grown (records_last p some)
    (ap (has_record q.log.memory) last ∙ c.land_all_records.ensures.last (omega arith))

recoverable_after : (c : goal.After-land_all_records)
    → Advances (next_address c.args.parts.now.log.memory) c.args.parts.now c.land_all_records.new.parts
    → 0 < length c.args.parts.now.waiting → IsRecoverable c.args.parts.now.log.memory
    → IsRecoverable c.land_all_records.new.parts.log.memory
recoverable_after c all waits was =
    let p = c.args.parts.now in
    let q = c.land_all_records.new.parts in
    writes_recoverable p.log.memory q.log.memory (entries_of p) c.requires.staged.whole.parts.laid_out.begun
    c.land_all_records.ensures.staged.whole.parts.laid_out all.serials (all.rising (recoverable_rises p.log.memory was))
    (written_whole c waits) was

-- the blocks of files end there
ends_blocks : (c : goal.After-land_all_records) → next_address c.land_blocks.new.parts.log.memory
    ≡ next_address c.args.parts.now.log.memory + 1 + length c.args.parts.now.cache.locked
ends_blocks c =
    let first = c.begin_partial.ensures.next in
    let second = c.land_blocks.ensures.next in
    let frames : length c.begin_partial.new.parts.cache.locked
    ≡ length c.args.parts.now.cache.locked = ap (λ (s : Contents). length s.locked) c.begin_partial.ensures.cache in
    omega arith

pub returns : goal.returns
returns c =
    let p = c.args.parts.now in
    let q = c.land_all_records.new.parts in
    let from = next_address p.log.memory in
    let begun = c.begin_partial.ensures.advances from (omega arith) in
    let second = begun.next in
    let landed = c.land_blocks.ensures.advances from second in
    let both = Advances-trans from p c.begin_partial.new.parts c.land_blocks.new.parts begun landed in
    let recorded = c.land_all_records.ensures.advances from (both.next) in
    let all = Advances-trans from p c.land_blocks.new.parts q both recorded in
    let waits : 0 < length p.waiting = records_some p c.requires.staged (entries_some c) in
    flush_moves p q c.land_all_records.ensures.staged c.land_all_records.ensures.ready c.land_all_records.ensures.flushed all
    (grown_is c) (written_whole c) (recoverable_after c all waits)
    (λ was. flush_ordered p q (next_address c.land_blocks.new.parts.log.memory) c.requires.staged
    c.land_all_records.ensures.staged all (ends_blocks c) c.land_all_records.ensures.noted (ends_at c) (written_whole c waits)
    (λ n. none_waits q c.land_all_records.ensures.flushed n 0) was (recoverable_after c all waits was))

-- nothing waits
pub returns-then-blocks_to_write-eq0 : goal.returns-then-blocks_to_write-eq0
returns-then-blocks_to_write-eq0 c =
    let p = c.args.parts.now in
    let flushed = c.blocks_to_write.ensures.none.0 c.if-blocks_to_write-eq0.true in
    let none : length p.waiting ≡ 0 = ap (λ (w : List Inode). length w) flushed.no_record in
    let blocks = c.blocks_to_write.ensures.blocks in
    let zero_blocks = c.if-blocks_to_write-eq0.true in
    flush_moves p p c.requires.staged c.requires.ready flushed (Advances-refl (next_address p.log.memory) p) (omega arith)
    (λ some. absurd (omega arith)) (λ was. was) (λ was order. order)

pub begin_partial-requires-clause-some : goal.begin_partial-requires-clause-some
begin_partial-requires-clause-some c = search rules

pub begin_partial-requires-clause-named : goal.begin_partial-requires-clause-named
begin_partial-requires-clause-named c = search rules
