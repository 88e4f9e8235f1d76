use Rattle.lfs_found.proofs.WrittenLemmas.{writes_keep}
use Rattle.lfs_found.proofs.laws.writes_keep.Goals as goal

pub returns : goal.returns
returns c = writes_keep
