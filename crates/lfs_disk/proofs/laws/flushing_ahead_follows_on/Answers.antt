use Rattle.lfs_disk.proofs.FlushLemmas.{flushing_ahead_follows_on}
use Rattle.lfs_disk.proofs.laws.flushing_ahead_follows_on.Goals as goal

pub returns : goal.returns
returns c = flushing_ahead_follows_on
