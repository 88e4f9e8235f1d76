use Rattle.lfs_laws.proofs.ViewLaw.{view}
use Rattle.lfs_laws.proofs.laws.same_view.Goals as goal

pub returns : goal.returns
returns c = view
