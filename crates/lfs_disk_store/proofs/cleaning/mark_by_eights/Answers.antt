use Rattle.lfs_disk_store.proofs.GainLemmas.{eights_some, eights_none}
use Rattle.lfs_disk_store.proofs.cleaning.mark_by_eights.Goals as goal

pub loop-info-init : goal.loop-info-init
loop-info-init g c = eights_none g.D.BlockDisk.time g.D.BlockDisk.left_since c.args.store.now c.requires

pub returns : goal.returns
returns g c =
    let d = g.D.BlockDisk in
    eights_some d.time d.left_since c.args.store.now c.loop-info.store c.markv.new.self c.loop-info.marks c.markv.result
    c.loop-info.invariant c.markv.ensures.given c.markv.ensures.follows

pub returns-then-not-mark_where_full : goal.returns-then-not-mark_where_full
returns-then-not-mark_where_full g c =
    c.mark_where_full.ensures.refused c.if-not-mark_where_full.true c.args.store.now c.loop-info.invariant
