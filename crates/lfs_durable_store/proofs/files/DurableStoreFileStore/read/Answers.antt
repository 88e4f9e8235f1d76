use Rattle.lfs_durable_store.proofs.KeepLemmas.{kept_read}
use Rattle.lfs_durable_store.proofs.files.DurableStoreFileStore.read.Goals as goal

pub invariant_of-self : goal.invariant_of-self
invariant_of-self c = kept_read
    (record { store = c.self.inside.store; base = c.self.inside.base.value; mark = c.self.inside.mark }) c.read.new.self
    c.self.invariant c.read.ensures.still
