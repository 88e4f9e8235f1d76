use Rattle.lfs_laws.proofs.CallLaws.{leaves_tree}
use Rattle.lfs_laws.proofs.laws.leaves_tree.Goals as goal

pub returns : goal.returns
returns c = leaves_tree
