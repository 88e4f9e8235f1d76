use Rattle.std.proofs.Common.{refl}
use Rattle.lfs_types.proofs.rule.Rule.code.Goals as goal

pub returns-in-IsOwner : goal.returns-in-IsOwner
returns-in-IsOwner c = rw c.in-IsOwner.is refl
