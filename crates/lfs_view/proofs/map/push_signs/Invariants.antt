use Rattle.std.proofs.Common.{◌≡◌, ◌++◌, map, take}
use Rattle.lfs_view.specs.MapText.{cell_sign}
use Rattle.lfs_view.proofs.map.push_signs.Given as goal

abbrev pub invariant-loop-cell : goal.invariant-loop-cell
invariant-loop-cell l = l.out.items ≡ l.fn.out.items ++ map cell_sign (take l.cell-index l.cells)
