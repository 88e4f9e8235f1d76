use Rattle.lfs_model.proofs.EntryLemmas.{users_alone_law}
use Rattle.lfs_laws.proofs.LeftOut.{idle_left_out}
use Rattle.lfs_laws.proofs.laws.users_alone.Goals as goal

pub returns : goal.returns
returns c = record { all = users_alone_law; each = idle_left_out }
