use Rattle.std.proofs.Common.{subst}
use Rattle.lfs_logged.specs.Keeping.{LeavesAll, LeavesKept}
use Rattle.lfs_logged.proofs.LeavingLemmas.{leaves_all, leaves_kept}
use Rattle.lfs_logged.proofs.logged.Logged.durable.Goals as goal

pub returns-clause-survives : goal.returns-clause-survives
returns-clause-survives c = subst LeavesKept c.self.view_is (leaves_kept _ c.self.invariant)

pub returns-clause-later : goal.returns-clause-later
returns-clause-later c = subst LeavesAll c.self.view_is (leaves_all _ c.self.invariant)
