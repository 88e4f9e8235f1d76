use Rattle.std.proofs.Common.{subst}
use Rattle.lfs_durable_store.specs.Keeping.{IsKept}
use Rattle.lfs_durable_store.proofs.CrashLemmas.{survives}
use Rattle.lfs_durable_store.proofs.store.DurableStore.log.Goals as goal

pub returns-clause-survives : goal.returns-clause-survives
returns-clause-survives c = survives c.args.self.now (subst IsKept c.self.view_is c.self.invariant)
