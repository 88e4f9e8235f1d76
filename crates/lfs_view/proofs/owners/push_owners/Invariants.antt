use Rattle.std.proofs.Common.{◌≡◌, ◌++◌, take}
use Rattle.std.specs.List.{flat_map}
use Rattle.lfs_view.specs.Owners.{cell_owner}
use Rattle.lfs_view.proofs.owners.push_owners.Given as goal

abbrev pub invariant-loop-cell : goal.invariant-loop-cell
invariant-loop-cell l = l.out.items ≡ l.fn.out.items ++ flat_map (cell_owner l.parts) (take l.cell-index l.cells)
