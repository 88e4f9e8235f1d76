use Rattle.std.proofs.Common.{rules}
use Rattle.lfs_logstore.proofs.ReclaimLemmas.{reclaimed_state}
use Rattle.lfs_logstore.proofs.cleaning.LogStoreCleanedStore.segclean.Goals as goal

pub reclaim-requires : goal.reclaim-requires
reclaim-requires c = search rules

pub returns-clause-given : goal.returns-clause-given
returns-clause-given c = record { ok = c.reclaim.ensures; err = tt; refused = tt }

pub returns-clause-cleaned : goal.returns-clause-cleaned
returns-clause-cleaned c = search reclaimed_state
