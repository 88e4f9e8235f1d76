use Rattle.lfs_disk.proofs.CrashLemmas.{finds_old_or_new}
use Rattle.lfs_disk.proofs.laws.finds_old_or_new.Goals as goal

pub returns : goal.returns
returns c = finds_old_or_new
