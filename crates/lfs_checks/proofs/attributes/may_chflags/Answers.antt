use Rattle.std.proofs.Common.{rules}
use Rattle.lfs_checks.proofs.attributes.may_chflags.Goals as goal

pub returns-in-None : goal.returns-in-None
returns-in-None c = search rules
