use Rattle.lfs_durable.proofs.CrashLemmas.{crash_spares}
use Rattle.lfs_durable.proofs.laws.crash_spares.Goals as goal

pub returns : goal.returns
returns c = λ p n d crash. crash_spares p n d crash
