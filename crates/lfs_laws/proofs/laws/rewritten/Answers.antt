use Rattle.lfs_laws.proofs.RowLaws.{rewritten_law}
use Rattle.lfs_laws.proofs.laws.rewritten.Goals as goal

pub returns : goal.returns
returns c = rewritten_law
