use Rattle.lfs_view.proofs.TextLemmas.{rows_more, rows_none}
use Rattle.lfs_view.proofs.map.push_map.Goals as goal

pub loop-segment-init : goal.loop-segment-init
loop-segment-init c = rows_none c.args.parts.now c.args.out.now.items

pub loop-segment-preserved : goal.loop-segment-preserved
loop-segment-preserved c =
    rows_more c.args.parts.now c.args.out.now.items c.loop-segment.out.items c.push_row.new.out.items
    c.loop-segment.segment c.loop-segment.invariant c.in_ok-push_row.ensures
