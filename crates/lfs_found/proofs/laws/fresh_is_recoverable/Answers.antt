use Rattle.lfs_found.proofs.RecoverableLemmas.{fresh_is_recoverable}
use Rattle.lfs_found.proofs.laws.fresh_is_recoverable.Goals as goal

pub returns : goal.returns
returns c = fresh_is_recoverable
