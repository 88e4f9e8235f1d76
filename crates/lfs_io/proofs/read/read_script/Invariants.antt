use Rattle.std.proofs.Common.{◌≡◌, ◌≤◌, ◌-◌, vec_len}
use Rattle.std.specs.Io.KnownBytes.{Consumes}
use Rattle.lfs_io.proofs.read.read_script.Given as goal

abbrev pub invariant-loop-script : goal.invariant-loop-script
invariant-loop-script g l = record {
  counted : vec_len l.script ≡ l.pieces.total;
  bounded : vec_len l.script ≤ 1048576;
  taken : Consumes (g.R.Read.remaining l.fn.reader) (g.R.Read.remaining l.reader) l.script.items;
}

abbrev pub decreases-loop-script : goal.decreases-loop-script
decreases-loop-script g l = 1048576 - vec_len l.script
