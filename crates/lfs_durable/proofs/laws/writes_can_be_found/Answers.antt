use Rattle.lfs_durable.proofs.KeptLemmas.{writes_can_be_found}
use Rattle.lfs_durable.proofs.laws.writes_can_be_found.Goals as goal

pub returns : goal.returns
returns c = writes_can_be_found
