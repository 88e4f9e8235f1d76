use Rattle.lfs_durable_store.proofs.CrashLemmas.{survives_later}
use Rattle.lfs_durable_store.proofs.laws.survives_later.Goals as goal

pub returns : goal.returns
returns c = survives_later
