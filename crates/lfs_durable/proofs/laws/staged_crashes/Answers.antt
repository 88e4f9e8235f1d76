use Rattle.lfs_durable.proofs.FlushLemmas.{staged_crashes}
use Rattle.lfs_durable.proofs.laws.staged_crashes.Goals as goal

pub returns : goal.returns
returns c = staged_crashes
