use Rattle.lfs_ifile.specs.Tables.{AreUsed}
use Rattle.lfs_ifile.proofs.tables.first_unused.Given as goal

abbrev pub invariant-loop-ino : goal.invariant-loop-ino
invariant-loop-ino l = AreUsed l.rows l.from l.ino
