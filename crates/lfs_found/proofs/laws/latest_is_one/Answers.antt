use Rattle.lfs_found.proofs.NamedLemmas.{latest_is_one}
use Rattle.lfs_found.proofs.laws.latest_is_one.Goals as goal

pub returns : goal.returns
returns c = latest_is_one
