use Rattle.lfs_ifile.specs.Tables.{AreUnclean}
use Rattle.lfs_ifile.proofs.tables.first_clean_from.Given as goal

abbrev pub invariant-loop-seg : goal.invariant-loop-seg
invariant-loop-seg l = AreUnclean l.states l.from l.seg
