use Rattle.lfs_durable.proofs.ContentLemmas.{finds_spared}
use Rattle.lfs_durable.proofs.laws.finds_spared.Goals as goal

pub returns : goal.returns
returns c = finds_spared
