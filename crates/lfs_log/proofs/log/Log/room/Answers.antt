use Rattle.std.proofs.Common.{rules}
use Rattle.lfs_log.proofs.log.Log.room.Goals as goal

pub returns-clause-room : goal.returns-clause-room
returns-clause-room c = search rules
