use Rattle.lfs_disk_store.proofs.GainLemmas.{eights_more, eights_some}
use Rattle.lfs_disk_store.proofs.cleaning.mark_where_full.Goals as goal

pub returns-clause-turns : goal.returns-clause-turns
returns-clause-turns g c first so_far =
    let d = g.D.BlockDisk in
    eights_more d.time d.left_since first c.args.store.now c.markv-marked.new.self c.args.marks.now c.markv-marked.result
    so_far c.markv-marked.ensures.given c.markv-marked.ensures.follows

pub returns-clause-refused : goal.returns-clause-refused
returns-clause-refused g c refused first so_far =
    let d = g.D.BlockDisk in
    eights_some d.time d.left_since first c.args.store.now c.markv-marked.new.self c.args.marks.now c.markv-marked.result
    so_far c.markv-marked.ensures.given c.markv-marked.ensures.follows
