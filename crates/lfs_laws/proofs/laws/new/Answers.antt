use Rattle.lfs_laws.proofs.CallLaws.{new_law}
use Rattle.lfs_laws.proofs.laws.new.Goals as goal

pub returns : goal.returns
returns c = new_law
