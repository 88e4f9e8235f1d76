use Rattle.lfs_laws.proofs.StrangerLemmas.{strangers_leave}
use Rattle.lfs_laws.proofs.laws.strangers_leave.Goals as goal

pub returns : goal.returns
returns c = strangers_leave
