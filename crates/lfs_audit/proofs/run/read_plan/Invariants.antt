use Rattle.std.proofs.Common.{◌-◌}
use Rattle.lfs_audit.proofs.ReadingLemmas.{IsReadSoFar}
use Rattle.lfs_audit.proofs.run.read_plan.Given as goal

abbrev pub invariant-loop-parser : goal.invariant-loop-parser
invariant-loop-parser g l = IsReadSoFar (g.R.Read.remaining l.fn.reader) (g.R.Read.remaining l.reader) l.pieces.total
    l.parser

abbrev pub decreases-loop-parser : goal.decreases-loop-parser
decreases-loop-parser g l = 1048576 - l.pieces.total
