use Rattle.std.proofs.Common.{rules}
use Rattle.lfs_server.proofs.serving.check_sessions.Goals as goal

pub returns-clause-count : goal.returns-clause-count
returns-clause-count c = search rules
