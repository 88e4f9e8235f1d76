use Rattle.lfs_programs.proofs.DiskLemmas.{begun_found, begun_fresh, started_on}
use Rattle.lfs_programs.proofs.on_disk.stand.Goals as goal

pub stand_found-requires : goal.stand_found-requires
stand_found-requires g c = c.requires.started.found c.if-is_found.true

pub stand_fresh-requires : goal.stand_fresh-requires
stand_fresh-requires g c = c.requires.started.made c.if-is_found.false

pub returns-then-is_found : goal.returns-then-is_found
returns-then-is_found g c =
    let d = g.D.BlockDisk in
    record {
      begun = begun_found c.args.options.now c.args.started.store c.log.ensures.kept
          (started_on d.seen d.may_leave d.time d.left_since c.args.options.now.params c.args.started.is_found
          c.args.started.store c.requires.started) c.requires.disk c.stand_found.result c.stand_found.ensures.store
          c.stand_found.ensures.found;
    }

pub returns-else-is_found : goal.returns-else-is_found
returns-else-is_found g c =
    let d = g.D.BlockDisk in
    record {
      begun = begun_fresh c.args.options.now c.args.started.store c.log.ensures.kept
          (started_on d.seen d.may_leave d.time d.left_since c.args.options.now.params c.args.started.is_found
          c.args.started.store c.requires.started) c.requires.disk c.stand_fresh.result c.stand_fresh.ensures.store
          c.stand_fresh.ensures.fresh;
    }
