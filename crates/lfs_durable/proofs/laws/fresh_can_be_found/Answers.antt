use Rattle.lfs_durable.proofs.KeptLemmas.{fresh_can_be_found}
use Rattle.lfs_durable.proofs.laws.fresh_can_be_found.Goals as goal

pub returns : goal.returns
returns c = fresh_can_be_found
