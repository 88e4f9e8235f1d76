use Rattle.lfs_found.proofs.RecoverableLemmas.{opens_recoverable}
use Rattle.lfs_found.proofs.laws.opens_recoverable.Goals as goal

pub returns : goal.returns
returns c = opens_recoverable
