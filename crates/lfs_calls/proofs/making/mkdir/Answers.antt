use Rattle.std.proofs.Common.{rules}
use Rattle.lfs_calls.proofs.making.mkdir.Goals as goal

pub returns-clause-call : goal.returns-clause-call
returns-clause-call g c = search rules
