use Rattle.lfs_checks.proofs.LastNames.{front_stands}
use Rattle.lfs_checks.proofs.components.parents_of.Goals as goal

pub returns : goal.returns
returns c = record { names = front_stands c.args.names.now c.requires }
