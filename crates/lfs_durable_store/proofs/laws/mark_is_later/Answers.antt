use Rattle.lfs_durable_store.proofs.CallLemmas.{mark_is_later}
use Rattle.lfs_durable_store.proofs.laws.mark_is_later.Goals as goal

pub returns : goal.returns
returns c = mark_is_later
