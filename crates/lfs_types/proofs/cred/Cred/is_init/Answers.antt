use Rattle.std.proofs.Common.{ap}
use Rattle.lfs_types.specs.Caller.{Caller}
use Rattle.lfs_types.proofs.cred.Cred.is_init.Goals as goal

pub returns : goal.returns
returns c = ap (λ (caller : Caller). caller.init) c.self.view_is
