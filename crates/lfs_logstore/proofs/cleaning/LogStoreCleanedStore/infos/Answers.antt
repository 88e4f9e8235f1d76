use Rattle.std.proofs.Common.{rules}
use Rattle.lfs_logstore.proofs.cleaning.LogStoreCleanedStore.infos.Goals as goal

pub returns-clause-given : goal.returns-clause-given
returns-clause-given c = search rules
