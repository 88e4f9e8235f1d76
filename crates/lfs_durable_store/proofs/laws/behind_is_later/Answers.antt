use Rattle.lfs_durable_store.proofs.CallLemmas.{behind_is_later}
use Rattle.lfs_durable_store.proofs.laws.behind_is_later.Goals as goal

pub returns : goal.returns
returns c = behind_is_later
