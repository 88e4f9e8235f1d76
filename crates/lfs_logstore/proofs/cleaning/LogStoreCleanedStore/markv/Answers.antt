use Rattle.std.proofs.Common.{rules}
use Rattle.lfs_logstore.proofs.RoomLemmas.{flushed_room}
use Rattle.lfs_logstore.proofs.cleaning.LogStoreCleanedStore.markv.Goals as goal

pub returns-clause-given : goal.returns-clause-given
returns-clause-given c = search rules

pub returns-clause-fault : goal.returns-clause-fault
returns-clause-fault c = search rules

pub invariant_of-self : goal.invariant_of-self
invariant_of-self c = (c.mark.ensures.store, flushed_room c.mark.new.parts c.mark.ensures.flushed)
