use Rattle.lfs_durable.proofs.KeptLemmas.{flushed_is_durable}
use Rattle.lfs_durable.proofs.laws.flushed_is_durable.Goals as goal

pub returns : goal.returns
returns c = flushed_is_durable
