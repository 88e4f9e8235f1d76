use Rattle.lfs_live.proofs.SameLemmas.{script_law}
use Rattle.lfs_live.proofs.same.writes_as_script.Goals as goal

pub returns : goal.returns
returns c = script_law
