use Rattle.lfs_volume.specs.Cleanings.{cleaner_of}
use Rattle.lfs_browse.proofs.WalkLemmas.{IsWalking}
use Rattle.lfs_browse.proofs.walk.Walk.go.Given as goal

abbrev pub invariant-loop : goal.invariant-loop
invariant-loop g l =
    IsWalking (cleaner_of g.F.FileStore.state g.F.FileStore.is_flushed g.F.FileStore.made g.F.CleanedStore.cleaner)
    l.fn.volume l.volume l.asker l.fn.self l.self l.counter
