use Rattle.lfs_found.proofs.WrittenLemmas.{fresh_is_findable}
use Rattle.lfs_found.proofs.laws.fresh_is_findable.Goals as goal

pub returns : goal.returns
returns c = fresh_is_findable
