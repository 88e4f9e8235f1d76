use Rattle.std.proofs.Common.{rules}
use Rattle.lfs_server.proofs.settle.settle.Goals as goal

pub returns-clause-interleaving : goal.returns-clause-interleaving
returns-clause-interleaving g c = search rules

pub returns-clause-lowest : goal.returns-clause-lowest
returns-clause-lowest g c = search rules
