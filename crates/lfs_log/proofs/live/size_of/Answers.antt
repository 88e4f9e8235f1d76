use Rattle.std.proofs.Common.{rules}
use Rattle.lfs_log.proofs.live.size_of.Goals as goal

pub returns-in-Record : goal.returns-in-Record
returns-in-Record c = search rules
