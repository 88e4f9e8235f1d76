use Rattle.std.proofs.Common.{false}
use Rattle.lfs_durable_store.proofs.KeepLemmas.{kept_own}
use Rattle.lfs_durable_store.proofs.store.DurableStore.over.Goals as goal

pub invariant_of-result : goal.invariant_of-result
invariant_of-result c = kept_own false c.args.store c.base_of-base.result.value c.first.result
    c.base_of-base.ensures.base c.first.ensures c.requires.found
    c.base_of-base.ensures.store c.requires.flushed

pub returns-clause-kept : goal.returns-clause-kept
returns-clause-kept c = kept_own false c.args.store c.base_of-base.result.value c.first.result
    c.base_of-base.ensures.base c.first.ensures c.requires.found
    c.base_of-base.ensures.store c.requires.flushed
