use Rattle.lfs_laws.proofs.CallLaws.{shown_law}
use Rattle.lfs_laws.proofs.laws.shown.Goals as goal

pub returns : goal.returns
returns c = shown_law
