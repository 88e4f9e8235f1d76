use Rattle.lfs_laws.proofs.RegrantLemmas.{right_between}
use Rattle.lfs_laws.proofs.laws.regranted_between.Goals as goal

pub returns : goal.returns
returns c = right_between
