use Rattle.std.proofs.Common.{rules}
use Rattle.lfs_ifile.proofs.tables.Ifile.least_free.Goals as goal

pub returns-else-free-len-clause-none : goal.returns-else-free-len-clause-none
returns-else-free-len-clause-none c = search rules
