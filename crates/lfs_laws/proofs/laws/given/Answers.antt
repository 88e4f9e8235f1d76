use Rattle.lfs_laws.proofs.RowLaws.{given_law}
use Rattle.lfs_laws.proofs.laws.given.Goals as goal

pub returns : goal.returns
returns c = given_law
