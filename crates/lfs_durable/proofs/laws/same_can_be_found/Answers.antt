use Rattle.lfs_durable.proofs.KeptLemmas.{same_can_be_found}
use Rattle.lfs_durable.proofs.laws.same_can_be_found.Goals as goal

pub returns : goal.returns
returns c = same_can_be_found
