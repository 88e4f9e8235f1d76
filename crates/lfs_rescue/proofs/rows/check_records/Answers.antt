use Rattle.lfs_durable.proofs.CrashLemmas.{crash_spares}
use Rattle.lfs_rescue.proofs.FoundLemmas.{recorded}
use Rattle.lfs_rescue.proofs.rows.check_records.Goals as goal

pub returns-then-not-is_recorded-clause-fault : goal.returns-then-not-is_recorded-clause-fault
returns-then-not-is_recorded-clause-fault c = λ p d shown crash.
    let found = c.args.found in
    c.is_recorded.ensures.no c.if-not-is_recorded.true
    (recorded found.memory.now found.last found.places.now found.marks.now found.inodes c.requires p d shown
    (crash_spares p found.memory.now d crash) c.loop-number.number c.loop-number-test.true c.if-found-index.true)
