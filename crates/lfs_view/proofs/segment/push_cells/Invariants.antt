use Rattle.std.proofs.Common.{◌≡◌, ◌++◌, take}
use Rattle.std.specs.List.{flat_map}
use Rattle.lfs_view.specs.SegmentText.{cell_lines}
use Rattle.lfs_view.proofs.segment.push_cells.Given as goal

abbrev pub invariant-loop-cell : goal.invariant-loop-cell
invariant-loop-cell l = l.out.items ≡ l.fn.out.items ++ flat_map (cell_lines l.parts) (take l.cell-index l.cells)
