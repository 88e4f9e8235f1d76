use Rattle.std.proofs.Common.{◌≤◌, length}
use Rattle.lfs_live.proofs.line.read_line.Given as goal
use Rattle.lfs_live.proofs.LineLemmas.{IsPart}

abbrev pub invariant-loop : goal.invariant-loop
invariant-loop g l = record {
  read : IsPart (g.R.Read.remaining l.fn.reader) (g.R.Read.remaining l.reader) l.bytes.items;
  few : length l.bytes.items ≤ 65537;
}
