use Rattle.lfs_durable.proofs.RunLemmas.{finds_prefix}
use Rattle.lfs_durable.proofs.laws.finds_prefix.Goals as goal

pub returns : goal.returns
returns c = finds_prefix
