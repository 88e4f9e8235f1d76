use Rattle.std.proofs.Common.{◌≡◌, ◌*◌, ◌∙◌, ap, arith}
use Rattle.lfs_view.proofs.WalkLemmas.{cells_more, cells_none, walk_begins, within_more, within_none}
use Rattle.lfs_view.specs.Cells.{IsIn}
use Rattle.lfs_view.specs.declared.cells.Cell.{Cell}
use Rattle.lfs_view.proofs.cells.walked.Goals as goal

pub loop-address-init : goal.loop-address-init
loop-address-init c = record {
  so_far = cells_none c.args.parts.now (c.args.segment * 64) c.new-cells.result.items c.new-cells.ensures.items;
  within = within_none c.args.parts.now c.new-cells.result.items c.new-cells.ensures.items;
  walked = c.start-walk.ensures ∙ walk_begins c.args.parts.now.log.memory c.args.segment;
}

pub loop-address-preserved : goal.loop-address-preserved
loop-address-preserved c =
    let p = c.args.parts.now in
    let l = c.loop-address in
    let cell = c.next_cell.result in
    let at : cell.address ≡ l.address = ap (λ (x : Cell). x.address) c.next_cell.ensures.cell in
    let inside : IsIn p cell = omega arith in
    record {
      so_far = cells_more p (c.args.segment * 64) l.address l.cells.items c.push.new.self.items cell
          (omega arith) l.invariant.so_far c.next_cell.ensures.cell c.in_ok-push.ensures.items;
      within = within_more p l.cells.items c.push.new.self.items cell l.invariant.within inside
          c.in_ok-push.ensures.items;
      walked = c.next_cell.ensures.walked;
    }
