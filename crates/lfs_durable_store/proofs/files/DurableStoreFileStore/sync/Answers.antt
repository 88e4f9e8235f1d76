use Rattle.lfs_durable.proofs.KeptLemmas.{writes_can_be_found}
use Rattle.lfs_durable_store.proofs.KeepLemmas.{kept_own}
use Rattle.lfs_durable_store.proofs.files.DurableStoreFileStore.sync.Goals as goal

pub invariant_of-self : goal.invariant_of-self
invariant_of-self c =
    let w = c.settle.ensures.written in
    let found = writes_can_be_found c.self.inside.store c.settle.new.store w.log c.self.invariant.found in
    kept_own c.self.inside.mark.turn c.settle.new.store c.settle.new.base.value c.whole-self-inside.result
    c.settle.ensures.base
    c.whole-self-inside.ensures found w.store w.flushed
