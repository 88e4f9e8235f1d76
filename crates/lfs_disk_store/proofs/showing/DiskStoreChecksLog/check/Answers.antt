use Rattle.std.proofs.Common.{IfOk, subst}
use Rattle.lfs_calls.specs.Volumes.{HasWorld}
use Rattle.lfs_checking.specs.Standing.{IsCheckTold}
use Rattle.lfs_disk_store.specs.Keeping.{OnDisk, disk_state, on_disk}
use Rattle.lfs_disk_store.proofs.StateLemmas.{check_shown}
use Rattle.lfs_disk_store.proofs.showing.DiskStoreChecksLog.check.Goals as goal

pub returns : goal.returns
returns g c = subst (λ (s : OnDisk _). IfOk c.check.result (λ text. HasWorld (disk_state s)
    → IsCheckTold s.store.store text.items)) c.self.view_is
    (check_shown (on_disk c.self.inside.store c.self.inside.mirror c.self.inside.fault)
    (λ text. IsCheckTold c.self.inside.store.store text.items) c.check.result c.check.ensures)
