use Rattle.lfs_found.proofs.NamedLemmas.{finds_newest}
use Rattle.lfs_found.proofs.laws.finds_newest.Goals as goal

pub returns : goal.returns
returns c = finds_newest
