use Rattle.lfs_rescue.proofs.RebuiltLemmas.{finds_store}
use Rattle.lfs_rescue.proofs.laws.finds_store.Goals as goal

pub returns : goal.returns
returns c = finds_store
