use Rattle.lfs_disk_store.specs.CleanerCalls.{MarksEights}
use Rattle.lfs_disk_store.proofs.cleaning.mark_by_eights.Given as goal

abbrev pub invariant-loop-info : goal.invariant-loop-info
invariant-loop-info g l = MarksEights g.D.BlockDisk.time g.D.BlockDisk.left_since l.fn.store l.store
