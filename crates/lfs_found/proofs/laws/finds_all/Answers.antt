use Rattle.lfs_found.proofs.ChainLemmas.{finds_all}
use Rattle.lfs_found.proofs.laws.finds_all.Goals as goal

pub returns : goal.returns
returns c = finds_all
