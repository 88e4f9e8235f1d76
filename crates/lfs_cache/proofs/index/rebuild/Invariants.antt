use Rattle.lfs_cache.proofs.index.rebuild.Given as goal
use Rattle.lfs_cache.proofs.Named.{AreIndexed}

abbrev pub invariant-loop-frame : goal.invariant-loop-frame
invariant-loop-frame l = AreIndexed l.keys l.places.items l.taken l.frame
