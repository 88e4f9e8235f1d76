use Rattle.std.proofs.Common.{subst}
use Rattle.lfs_calls.specs.Volumes.{HasWorld}
use Rattle.lfs_rescue.proofs.naming.walk.Goals as goal

pub returns-in-Ok-clause-world : goal.returns-in-Ok-clause-world
returns-in-Ok-clause-world c = subst HasWorld c.in-Ok.ensures.state c.in-Ok.ensures.ok
