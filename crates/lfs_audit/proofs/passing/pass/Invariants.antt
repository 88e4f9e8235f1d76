use Rattle.lfs_cleaner.specs.Passing.{calls_left}
use Rattle.lfs_volume.specs.Cleanings.{cleaner_of}
use Rattle.lfs_audit.proofs.passing.pass.Given as goal
use Rattle.lfs_audit.proofs.RunLemmas.{IsPassing}

abbrev pub invariant-loop-call : goal.invariant-loop-call
invariant-loop-call g l =
    let s = g.F.CleanedStore in
    IsPassing (cleaner_of g.F.FileStore.state g.F.FileStore.is_flushed g.F.FileStore.made s.cleaner)
    l.fn.volume l.volume l.fn.refusals l.refusals l.asker.session l.asker.cred l.pass l.last l.fn.text.items l.text.items

abbrev pub decreases-loop-call : goal.decreases-loop-call
decreases-loop-call g l = calls_left l.pass
