use Rattle.lfs_laws.proofs.HiddenLemmas.{hides_from_call}
use Rattle.lfs_laws.proofs.HiddenRuns.{hides_from_run}
use Rattle.lfs_laws.proofs.laws.closed_door_hides.Goals as goal

pub returns : goal.returns
returns c = record { call = hides_from_call; run = hides_from_run }
