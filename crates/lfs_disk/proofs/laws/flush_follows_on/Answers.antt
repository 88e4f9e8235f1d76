use Rattle.lfs_disk.proofs.FlushLemmas.{flush_follows_on}
use Rattle.lfs_disk.proofs.laws.flush_follows_on.Goals as goal

pub returns : goal.returns
returns c = flush_follows_on
