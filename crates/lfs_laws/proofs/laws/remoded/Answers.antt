use Rattle.lfs_laws.proofs.RowLaws.{remoded_law}
use Rattle.lfs_laws.proofs.laws.remoded.Goals as goal

pub returns : goal.returns
returns c = remoded_law
