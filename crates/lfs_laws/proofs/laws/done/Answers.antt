use Rattle.lfs_laws.proofs.DoneLemmas.{done_law}
use Rattle.lfs_laws.proofs.laws.done.Goals as goal

pub returns : goal.returns
returns c = done_law
