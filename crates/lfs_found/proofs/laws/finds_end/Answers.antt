use Rattle.lfs_found.proofs.ChainLemmas.{finds_end}
use Rattle.lfs_found.proofs.laws.finds_end.Goals as goal

pub returns : goal.returns
returns c = finds_end
