use Rattle.std.proofs.Common.{◌≡◌, drop}
use Rattle.std.specs.List.{list_any}
use Rattle.lfs_segwrite.specs.Giving.{removes}
use Rattle.lfs_segwrite.proofs.giving.are_removing.Given as goal

abbrev pub invariant-loop-change : goal.invariant-loop-change
invariant-loop-change l =
    list_any (removes l.number) (drop l.change-index l.changes) ≡ list_any (removes l.number) l.changes
