use Rattle.lfs_disk.proofs.FlushLemmas.{opens_clean_only}
use Rattle.lfs_disk.proofs.laws.opens_clean_only.Goals as goal

pub returns : goal.returns
returns c = opens_clean_only
