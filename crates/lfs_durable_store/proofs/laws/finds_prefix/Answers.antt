use Rattle.lfs_durable_store.proofs.RunLemmas.{finds_prefix}
use Rattle.lfs_durable_store.proofs.laws.finds_prefix.Goals as goal

pub returns : goal.returns
returns c = finds_prefix
