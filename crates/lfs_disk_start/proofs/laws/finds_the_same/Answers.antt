use Rattle.lfs_disk_start.proofs.TornLemmas.{finds_the_same}
use Rattle.lfs_disk_start.proofs.laws.finds_the_same.Goals as goal

pub returns : goal.returns
returns c = finds_the_same
