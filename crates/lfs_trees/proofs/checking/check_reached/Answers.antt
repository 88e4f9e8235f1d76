use Rattle.std.proofs.Common.{arith}
use Rattle.lfs_trees.proofs.checking.check_reached.Goals as goal

pub returns-clause-all : goal.returns-clause-all
returns-clause-all g c = λ n used. c.loop-number.invariant n used (let low = c.requires.bounded n used in omega arith)
