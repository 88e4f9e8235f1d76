use Rattle.std.specs.Prelude.{not}
use Rattle.lfs_segwrite.proofs.BoundLemmas.{all_in_reach}
use Rattle.lfs_durable.proofs.KeptLemmas.{writes_can_be_found}
use Rattle.lfs_durable_store.proofs.KeepLemmas.{kept_own}
use Rattle.lfs_durable_store.proofs.store.DurableStore.make_way.Goals as goal

pub fits_with-requires-clause-reach : goal.fits_with-requires-clause-reach
fits_with-requires-clause-reach c = all_in_reach _ c.args.changes.now _ c.requires.few_bytes c.requires.each

pub invariant_of-self : goal.invariant_of-self
invariant_of-self c =
    let w = c.settle.ensures.written in
    let found = writes_can_be_found c.self.inside.store c.settle.new.store w.log c.self.invariant.found in
    kept_own (not c.self.inside.mark.turn) c.settle.new.store c.settle.new.base.value c.turned-self-inside.result
    c.settle.ensures.base
    c.turned-self-inside.ensures found w.store w.flushed
