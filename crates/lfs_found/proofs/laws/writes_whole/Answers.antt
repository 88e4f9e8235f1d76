use Rattle.lfs_found.proofs.WrittenLemmas.{writes_whole}
use Rattle.lfs_found.proofs.laws.writes_whole.Goals as goal

pub returns : goal.returns
returns c = writes_whole
