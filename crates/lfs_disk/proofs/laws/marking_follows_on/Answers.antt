use Rattle.lfs_disk.proofs.FlushLemmas.{marking_follows_on}
use Rattle.lfs_disk.proofs.laws.marking_follows_on.Goals as goal

pub returns : goal.returns
returns c = marking_follows_on
