use Rattle.lfs_segwrite.proofs.OrderedLemmas.{finds_in_use}
use Rattle.lfs_segwrite.proofs.laws.finds_in_use.Goals as goal

pub returns : goal.returns
returns c = finds_in_use
