use Rattle.lfs_found.proofs.ChainLemmas.{finds_begun}
use Rattle.lfs_found.proofs.laws.finds_begun.Goals as goal

pub returns : goal.returns
returns c = finds_begun
