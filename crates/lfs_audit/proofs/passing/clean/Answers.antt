use Rattle.std.proofs.Common.{rules}
use Rattle.lfs_audit.proofs.passing.clean.Goals as goal

pub returns : goal.returns
returns g c = search rules
