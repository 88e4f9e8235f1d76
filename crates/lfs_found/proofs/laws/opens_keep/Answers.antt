use Rattle.lfs_found.proofs.WrittenLemmas.{opens_keep}
use Rattle.lfs_found.proofs.laws.opens_keep.Goals as goal

pub returns : goal.returns
returns c = opens_keep
