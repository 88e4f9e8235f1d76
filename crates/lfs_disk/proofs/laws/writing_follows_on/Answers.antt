use Rattle.lfs_disk.proofs.FlushLemmas.{writing_follows_on}
use Rattle.lfs_disk.proofs.laws.writing_follows_on.Goals as goal

pub returns : goal.returns
returns c = writing_follows_on
