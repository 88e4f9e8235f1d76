use Rattle.lfs_found.proofs.WrittenLemmas.{writes_latest}
use Rattle.lfs_found.proofs.laws.writes_latest.Goals as goal

pub returns : goal.returns
returns c = writes_latest
