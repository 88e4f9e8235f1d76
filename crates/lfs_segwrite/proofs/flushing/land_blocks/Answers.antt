use Rattle.std.proofs.Common.{◌<◌, ◌+◌, ◌∷◌, drop, sym, subst, arith}
use Rattle.lfs_segments.specs.Log.{Expects}
use Rattle.lfs_segwrite.specs.Collecting.{entries_of}
use Rattle.lfs_segwrite.proofs.FlushLemmas.{keys_end, keys_first, keys_left, keys_more, next_at, taken_count}
use Rattle.lfs_segwrite.proofs.flushing.land_blocks.Goals as goal

pub slice_bounds-entry-items-end : goal.slice_bounds-entry-items-end
slice_bounds-entry-items-end c =
    sym (taken_count c.args.parts.now c.locked_count-blocks.result c.args.entries.now c.requires.all
    c.locked_count-blocks.ensures.count)

pub loop-entry-init : goal.loop-entry-init
loop-entry-init c = keys_first c.args.parts.now c.requires.staged c.requires.expected

pub land_waiting-requires-clause-block : goal.land_waiting-requires-clause-block
land_waiting-requires-clause-block c =
    let low : c.loop-entry.entry-index < c.locked_count-blocks.result =
    let taken = taken_count c.args.parts.now c.locked_count-blocks.result c.args.entries.now c.requires.all
    c.locked_count-blocks.ensures.count in let test = c.loop-entry-test.true in omega arith in
    let next = next_at c.args.parts.now c.loop-entry.parts c.locked_count-blocks.result c.loop-entry.entry-index
    c.args.entries.now _ c.from_logical.result
    c.loop-entry.invariant c.requires.all c.locked_count-blocks.ensures.count low c.from_logical.ensures in
    next.can

pub land_waiting-requires-clause-other : goal.land_waiting-requires-clause-other
land_waiting-requires-clause-other c =
    let low : c.loop-entry.entry-index < c.locked_count-blocks.result =
    let taken = taken_count c.args.parts.now c.locked_count-blocks.result c.args.entries.now c.requires.all
    c.locked_count-blocks.ensures.count in let test = c.loop-entry-test.true in omega arith in
    let next = next_at c.args.parts.now c.loop-entry.parts c.locked_count-blocks.result c.loop-entry.entry-index
    c.args.entries.now _ c.from_logical.result
    c.loop-entry.invariant c.requires.all c.locked_count-blocks.ensures.count low c.from_logical.ensures in
    next.other

pub land_waiting-requires-clause-waits : goal.land_waiting-requires-clause-waits
land_waiting-requires-clause-waits c =
    let low : c.loop-entry.entry-index < c.locked_count-blocks.result =
    let taken = taken_count c.args.parts.now c.locked_count-blocks.result c.args.entries.now c.requires.all
    c.locked_count-blocks.ensures.count in let test = c.loop-entry-test.true in omega arith in
    let next = next_at c.args.parts.now c.loop-entry.parts c.locked_count-blocks.result c.loop-entry.entry-index
    c.args.entries.now _ c.from_logical.result
    c.loop-entry.invariant c.requires.all c.locked_count-blocks.ensures.count low c.from_logical.ensures in
    next.waits

pub land_waiting-requires-clause-free : goal.land_waiting-requires-clause-free
land_waiting-requires-clause-free c =
    let low : c.loop-entry.entry-index < c.locked_count-blocks.result =
    let taken = taken_count c.args.parts.now c.locked_count-blocks.result c.args.entries.now c.requires.all
    c.locked_count-blocks.ensures.count in let test = c.loop-entry-test.true in omega arith in
    let next = next_at c.args.parts.now c.loop-entry.parts c.locked_count-blocks.result c.loop-entry.entry-index
    c.args.entries.now _ c.from_logical.result
    c.loop-entry.invariant c.requires.all c.locked_count-blocks.ensures.count low c.from_logical.ensures in
    next.free

pub land_waiting-requires-clause-expected : goal.land_waiting-requires-clause-expected
land_waiting-requires-clause-expected c =
    let low : c.loop-entry.entry-index < c.locked_count-blocks.result =
    let taken = taken_count c.args.parts.now c.locked_count-blocks.result c.args.entries.now c.requires.all
    c.locked_count-blocks.ensures.count in let test = c.loop-entry-test.true in omega arith in
    let next = next_at c.args.parts.now c.loop-entry.parts c.locked_count-blocks.result c.loop-entry.entry-index
    c.args.entries.now _ c.from_logical.result
    c.loop-entry.invariant c.requires.all c.locked_count-blocks.ensures.count low c.from_logical.ensures in
    record {
      rest = drop (c.loop-entry.entry-index + 1) (entries_of c.args.parts.now);
      expects = subst (λ e. Expects c.loop-entry.parts.log.memory (e
          ∷ drop (c.loop-entry.entry-index + 1) (entries_of c.args.parts.now))) (sym next.same)
          (subst (Expects c.loop-entry.parts.log.memory) next.split c.loop-entry.invariant.expected);
    }

pub loop-entry-preserved : goal.loop-entry-preserved
loop-entry-preserved c =
    let low : c.loop-entry.entry-index < c.locked_count-blocks.result =
    let taken = taken_count c.args.parts.now c.locked_count-blocks.result c.args.entries.now c.requires.all
    c.locked_count-blocks.ensures.count in let test = c.loop-entry-test.true in omega arith in
    let next = next_at c.args.parts.now c.loop-entry.parts c.locked_count-blocks.result c.loop-entry.entry-index
    c.args.entries.now _ c.from_logical.result
    c.loop-entry.invariant c.requires.all c.locked_count-blocks.ensures.count low c.from_logical.ensures in
    let count = c.locked_count-blocks.ensures.count in
    keys_more c.args.parts.now c.loop-entry.parts c.land_waiting.new.parts c.loop-entry.entry-index _
    c.from_logical.result c.loop-entry.invariant (omega arith) next
    c.land_waiting.ensures.staged c.land_waiting.ensures.advances c.land_waiting.ensures.expects
    c.land_waiting.ensures.gone c.land_waiting.ensures.others
    c.land_waiting.ensures.only c.land_waiting.ensures.waiting c.land_waiting.ensures.next

pub returns-clause-no_frame : goal.returns-clause-no_frame
returns-clause-no_frame c =
    let taken = taken_count c.args.parts.now c.locked_count-blocks.result c.args.entries.now c.requires.all
    c.locked_count-blocks.ensures.count in
    let test = c.loop-entry-test.false in
    let end = c.loop-entry.auto.entry-index-end in
    let count = c.locked_count-blocks.ensures.count in
    keys_end c.args.parts.now c.loop-entry.parts c.loop-entry.entry-index c.loop-entry.invariant (omega arith)

pub returns-clause-expects : goal.returns-clause-expects
returns-clause-expects c =
    let taken = taken_count c.args.parts.now c.locked_count-blocks.result c.args.entries.now c.requires.all
    c.locked_count-blocks.ensures.count in
    let test = c.loop-entry-test.false in
    let end = c.loop-entry.auto.entry-index-end in
    let count = c.locked_count-blocks.ensures.count in
    keys_left c.args.parts.now c.loop-entry.parts c.loop-entry.entry-index c.loop-entry.invariant (omega arith)

pub returns-clause-next : goal.returns-clause-next
returns-clause-next c =
    let taken = taken_count c.args.parts.now c.locked_count-blocks.result c.args.entries.now c.requires.all
    c.locked_count-blocks.ensures.count in
    let test = c.loop-entry-test.false in
    let end = c.loop-entry.auto.entry-index-end in
    let count = c.locked_count-blocks.ensures.count in
    let next = c.loop-entry.invariant.next in
    omega arith
