use Rattle.lfs_laws.proofs.PathLemmas.{guarded_is_left, path_stays}
use Rattle.lfs_laws.proofs.laws.path_stays.Goals as goal

pub returns : goal.returns
returns c = record { stays = path_stays; guarded = guarded_is_left }
