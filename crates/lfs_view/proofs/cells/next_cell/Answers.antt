use Rattle.lfs_view.proofs.WalkLemmas.{first_below, walked_on}
use Rattle.lfs_view.proofs.cells.next_cell.Goals as goal

pub returns-clause-walked : goal.returns-clause-walked
returns-clause-walked c =
    let p = c.args.parts.now in
    walked_on p.log.memory c.args.segment c.args.address c.has_serials.result c.args.walk.now c.pass-standing.new.self c.block.result.now
    c.has_serials.ensures.serials
    (first_below c.args.segment c.args.address c.requires.from c.if-address-eq0.false) c.requires.walked
    c.block.ensures.block c.pass-standing.ensures.next
