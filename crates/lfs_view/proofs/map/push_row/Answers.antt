use Rattle.lfs_view.proofs.TextLemmas.{row_added}
use Rattle.lfs_view.proofs.map.push_row.Goals as goal

pub returns : goal.returns
returns c =
    row_added c.args.parts.now c.args.segment c.args.out.now.items c.push_use.new.out.items c.push.new.self.items
    c.push_signs.new.out.items c.push-2.new.self.items
    c.as_slice.result.now c.in_ok-cells.cells.items c.in_ok-push_use.ensures c.in_ok-push.ensures.items
    c.as_slice.ensures.value c.in_ok-cells.ensures.cells
    c.in_ok-push_signs.ensures c.in_ok-push-2.ensures.items
