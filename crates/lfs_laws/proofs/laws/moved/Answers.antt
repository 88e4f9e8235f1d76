use Rattle.lfs_laws.proofs.RowLaws.{moved_law}
use Rattle.lfs_laws.proofs.laws.moved.Goals as goal

pub returns : goal.returns
returns c = moved_law
