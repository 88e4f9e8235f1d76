use Rattle.lfs_durable.proofs.KeptLemmas.{fresh_is_durable}
use Rattle.lfs_durable.proofs.laws.fresh_is_durable.Goals as goal

pub returns : goal.returns
returns c = fresh_is_durable
