use Rattle.std.proofs.Common.{subst}
use Rattle.lfs_durable_store.specs.Surviving.{Survives}
use Rattle.lfs_disk_store.specs.Keeping.{OnDisk}
use Rattle.lfs_disk_store.proofs.store.DiskStore.log.Goals as goal

pub returns-clause-survives : goal.returns-clause-survives
returns-clause-survives g c = subst (λ (s : OnDisk _). Survives s.store) c.self.view_is c.log.ensures.survives
