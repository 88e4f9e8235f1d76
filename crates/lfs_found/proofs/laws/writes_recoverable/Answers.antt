use Rattle.lfs_found.proofs.RecoverableLemmas.{writes_recoverable}
use Rattle.lfs_found.proofs.laws.writes_recoverable.Goals as goal

pub returns : goal.returns
returns c = writes_recoverable
