use Rattle.std.proofs.Common.{◌-◌, length}
use Rattle.lfs_auditing.proofs.lines.read_line.Given as goal
use Rattle.lfs_auditing.specs.Lines.{IsPart}

abbrev pub invariant-loop-reader : goal.invariant-loop-reader
invariant-loop-reader g l = IsPart (g.R.Read.remaining l.fn.reader) (g.R.Read.remaining l.reader) l.line.items

abbrev pub decreases-loop-reader : goal.decreases-loop-reader
decreases-loop-reader g l = 4194305 - length l.line.items
