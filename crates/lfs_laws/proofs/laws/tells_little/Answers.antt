use Rattle.lfs_laws.proofs.DeniedLemmas.{tells_little}
use Rattle.lfs_laws.proofs.laws.tells_little.Goals as goal

pub returns : goal.returns
returns c = tells_little
