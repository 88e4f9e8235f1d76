use Rattle.std.proofs.Common.{rules}
use Rattle.lfs_volume.specs.Cleanings.{cleaner_of}
use Rattle.lfs_volume.proofs.CleaningLemmas.{answered_done}
use Rattle.lfs_volume.proofs.cleaning.cleaned.Goals as goal

pub returns-clause-answered : goal.returns-clause-answered
returns-clause-answered g c =
    let r = cleaner_of g.F.FileStore.state g.F.FileStore.is_flushed g.F.FileStore.made g.F.CleanedStore.cleaner in
    answered_done r c.args.store.now c.args.cred.now c.args.call c.done.result c.done.new.store
    (search rules) c.done.ensures.done

pub returns-clause-cleaned : goal.returns-clause-cleaned
returns-clause-cleaned g c = c.done.ensures.cleaned c.args.cred.now (search rules)
