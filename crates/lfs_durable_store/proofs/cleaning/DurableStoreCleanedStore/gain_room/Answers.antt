use Rattle.lfs_durable_store.proofs.CallLemmas.{gained_found}
use Rattle.lfs_durable_store.proofs.KeepLemmas.{kept_own}
use Rattle.lfs_durable_store.proofs.cleaning.DurableStoreCleanedStore.gain_room.Goals as goal

pub invariant_of-self : goal.invariant_of-self
invariant_of-self c =
    let given = c.gain_room-gained.ensures.given in
    let new = c.gain_room-gained.new.self in
    let found = gained_found c.self.inside.store new c.gain_room-gained.result given c.self.invariant.found in
    kept_own c.self.inside.mark.turn new c.base_of.result.value c.whole-self-inside.result c.base_of.ensures.base
    c.whole-self-inside.ensures
    found c.base_of.ensures.store given.flushed
