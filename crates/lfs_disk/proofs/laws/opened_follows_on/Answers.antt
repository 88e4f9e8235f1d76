use Rattle.lfs_disk.proofs.FlushLemmas.{opened_follows_on}
use Rattle.lfs_disk.proofs.laws.opened_follows_on.Goals as goal

pub returns : goal.returns
returns c = opened_follows_on
