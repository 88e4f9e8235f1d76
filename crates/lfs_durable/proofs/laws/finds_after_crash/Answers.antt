use Rattle.lfs_durable.proofs.CrashLemmas.{finds_after_crash}
use Rattle.lfs_durable.proofs.laws.finds_after_crash.Goals as goal

pub returns : goal.returns
returns c = finds_after_crash
