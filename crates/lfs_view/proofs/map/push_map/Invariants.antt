use Rattle.std.proofs.Common.{◌≡◌, ◌++◌}
use Rattle.lfs_view.specs.MapText.{rows_below}
use Rattle.lfs_view.proofs.map.push_map.Given as goal

abbrev pub invariant-loop-segment : goal.invariant-loop-segment
invariant-loop-segment l = l.out.items ≡ l.fn.out.items ++ rows_below l.parts l.segment
