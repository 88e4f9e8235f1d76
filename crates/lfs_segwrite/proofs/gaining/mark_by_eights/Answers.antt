use Rattle.std.proofs.Common.{refl, ◌⊎◌, ◌<◌, ◌≤◌, sym, subst, arith}
use Rattle.lfs_bmap.specs.Counting.{total}
use Rattle.lfs_segments.specs.Memory.{room_of}
use Rattle.lfs_segwrite.specs.Gaining.{blocks_by_eights, eight_blocks, widest_eight}
use Rattle.lfs_segwrite.specs.Marking.{MarksFlushed, blocks_to_mark}
use Rattle.lfs_segwrite.proofs.GainLemmas.{eights_more, moves_none, room_next, spent_none, total_part}
use Rattle.lfs_segwrite.proofs.gaining.mark_by_eights.Goals as goal

pub loop-k-init : goal.loop-k-init
unfolding total
loop-k-init c = record {
  moved = moves_none c.args.parts.now c.requires.store c.requires.flushed;
  gone = λ j d low. absurd (omega arith);
  still = λ n code low below other. refl;
  spent = spent_none (widest_eight c.args.infos.now) c.args.parts.now;
}

pub mark_eight-requires-clause-room : goal.mark_eight-requires-clause-room
mark_eight-requires-clause-room c =
    let infos = c.args.infos.now in
    let k = c.loop-k.k in
    subst (λ marks. (0 < c.loop-k.parts.log.clean) ⊎ (blocks_to_mark marks ≤ room_of c.loop-k.parts.log.memory))
    (sym c.eight.ensures.eight)
    (room_next (blocks_by_eights infos) (widest_eight infos) (total (eight_blocks infos) k)
    (eight_blocks infos k) c.args.parts.now c.loop-k.parts c.requires.worth
    c.loop-k.invariant.spent (total_part infos k (omega (arith, c.eights-count.ensures, c.loop-k-test.true))))

pub loop-k-preserved : goal.loop-k-preserved
loop-k-preserved c =
    let infos = c.args.infos.now in
    let k = c.loop-k.k in
    let e = c.mark_eight.ensures in
    eights_more infos k e.marked.0 c.args.parts.now c.loop-k.parts c.mark_eight.new.parts c.requires.worth
    c.requires.dirty (omega (arith, c.eights-count.ensures, c.loop-k-test.true))
    c.loop-k.invariant e.store e.flushed e.content
    (subst (λ marks. MarksFlushed marks e.marked.0 c.loop-k.parts c.mark_eight.new.parts) c.eight.ensures.eight
    e.marked.1)
