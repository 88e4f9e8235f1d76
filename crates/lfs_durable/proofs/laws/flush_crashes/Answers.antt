use Rattle.lfs_durable.proofs.FlushLemmas.{flush_crashes}
use Rattle.lfs_durable.proofs.laws.flush_crashes.Goals as goal

pub returns : goal.returns
returns c = flush_crashes
