use Rattle.lfs_laws.proofs.DoorLemmas.{closed_door}
use Rattle.lfs_laws.proofs.laws.closed_door.Goals as goal

pub returns : goal.returns
returns c = closed_door
