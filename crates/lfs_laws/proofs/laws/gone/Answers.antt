use Rattle.lfs_laws.proofs.RowLaws.{gone_law}
use Rattle.lfs_laws.proofs.laws.gone.Goals as goal

pub returns : goal.returns
returns c = gone_law
