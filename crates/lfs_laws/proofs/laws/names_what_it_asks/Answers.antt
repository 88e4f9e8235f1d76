use Rattle.lfs_laws.proofs.AskedLemmas.{names_what_it_asks}
use Rattle.lfs_laws.proofs.laws.names_what_it_asks.Goals as goal

pub returns : goal.returns
returns c = names_what_it_asks
