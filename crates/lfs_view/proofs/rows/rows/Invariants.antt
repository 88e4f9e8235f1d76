use Rattle.std.proofs.Common.{◌≡◌}
use Rattle.lfs_view.specs.Rows.{first_rows}
use Rattle.lfs_view.proofs.rows.rows.Given as goal

abbrev pub invariant-loop-segment : goal.invariant-loop-segment
invariant-loop-segment l = l.rows.items ≡ first_rows l.parts l.segment
