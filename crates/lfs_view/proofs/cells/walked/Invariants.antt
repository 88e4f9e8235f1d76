use Rattle.std.proofs.Common.{◌≡◌, ◌-◌, ◌*◌, All}
use Rattle.lfs_segments.specs.Log.{expected, first_of, log_block}
use Rattle.lfs_segments.specs.Memory.{has_serials}
use Rattle.lfs_view.specs.Cells.{IsIn, cells_from}
use Rattle.lfs_view.proofs.cells.walked.Given as goal

-- the cells so far, and what the walk expects next
abbrev pub invariant-loop-address : goal.invariant-loop-address
invariant-loop-address l = record {
  so_far : l.cells.items ≡ cells_from l.parts (l.segment * 64) (l.address - l.segment * 64);
  within : All (IsIn l.parts) l.cells.items;
  walked : l.walk ≡ expected (has_serials l.parts.log.memory) (log_block l.parts.log.memory l.segment)
      (l.address - first_of l.segment);
}
