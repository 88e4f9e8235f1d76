use Rattle.lfs_durable.proofs.NameLemmas.{finds_names}
use Rattle.lfs_durable.proofs.laws.finds_names.Goals as goal

pub returns : goal.returns
returns c = finds_names
