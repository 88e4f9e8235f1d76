use Rattle.lfs_laws.proofs.MayLemmas.{served_exactly}
use Rattle.lfs_laws.proofs.laws.served_exactly_where_he_may.Goals as goal

pub returns : goal.returns
returns c = served_exactly
