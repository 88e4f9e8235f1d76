use Rattle.std.proofs.Common.{rules}
use Rattle.lfs_checks.proofs.names.may_move.Goals as goal

pub returns : goal.returns
returns c = search rules
