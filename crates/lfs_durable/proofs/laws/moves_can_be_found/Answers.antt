use Rattle.lfs_durable.proofs.KeptLemmas.{moves_can_be_found}
use Rattle.lfs_durable.proofs.laws.moves_can_be_found.Goals as goal

pub returns : goal.returns
returns c = moves_can_be_found
