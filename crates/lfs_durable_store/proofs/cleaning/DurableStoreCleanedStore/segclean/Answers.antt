use Rattle.lfs_durable_store.proofs.CallLemmas.{reclaims_kept}
use Rattle.lfs_durable_store.proofs.cleaning.DurableStoreCleanedStore.segclean.Goals as goal

pub invariant_of-self : goal.invariant_of-self
invariant_of-self c = reclaims_kept
    (record { store = c.self.inside.store; base = c.self.inside.base.value; mark = c.self.inside.mark }) c.args.segment
    c.segclean.result c.segclean.new.self c.self.invariant c.segclean.ensures.given
