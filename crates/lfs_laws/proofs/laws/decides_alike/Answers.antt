use Rattle.lfs_laws.proofs.BroughtLemmas.{decides_alike}
use Rattle.lfs_laws.proofs.laws.decides_alike.Goals as goal

pub returns : goal.returns
returns c = decides_alike
