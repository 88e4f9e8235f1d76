use Rattle.std.proofs.Common.{refl, arith}
use Rattle.lfs_dirs.proofs.Laws.{length-entries_of}
use Rattle.lfs_dirs.proofs.reading.entries.Goals as goal

pub returns-clause-value : goal.returns-clause-value
returns-clause-value c = refl

pub returns-clause-few : goal.returns-clause-few
returns-clause-few c = omega (arith, length-entries_of c.args.block.now)
