use Rattle.lfs_found.proofs.WrittenLemmas.{opens_whole}
use Rattle.lfs_found.proofs.laws.opens_whole.Goals as goal

pub returns : goal.returns
returns c = opens_whole
