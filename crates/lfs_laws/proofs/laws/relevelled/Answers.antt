use Rattle.lfs_laws.proofs.CallLaws.{relevelled_law}
use Rattle.lfs_laws.proofs.laws.relevelled.Goals as goal

pub returns : goal.returns
returns c = relevelled_law
