use Rattle.std.proofs.Common.{rules}
use Rattle.lfs_logstore.proofs.store.LogStore.dirty_live.Goals as goal

pub returns-in-Active-clause-live : goal.returns-in-Active-clause-live
returns-in-Active-clause-live c = search rules
