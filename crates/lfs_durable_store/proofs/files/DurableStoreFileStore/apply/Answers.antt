use Rattle.lfs_durable_store.proofs.files.DurableStoreFileStore.apply.Goals as goal

pub returns-clause-applies : goal.returns-clause-applies
returns-clause-applies c = c.make_changes.ensures.applies c.args.self.now c.make_way.ensures

pub returns-clause-made : goal.returns-clause-made
returns-clause-made c = (c.make_changes.ensures.made c.args.self.now c.make_way.ensures).0
