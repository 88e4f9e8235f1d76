use Rattle.lfs_laws.proofs.RefusedLemmas.{refused_truly}
use Rattle.lfs_laws.proofs.laws.refused_truly.Goals as goal

pub returns : goal.returns
returns c = refused_truly
