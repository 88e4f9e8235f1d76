use Rattle.std.proofs.Common.{◌≡◌, take}
use Rattle.std.specs.List.{filter}
use Rattle.lfs_segwrite.specs.Giving.{stays}
use Rattle.lfs_segwrite.proofs.giving.staying_infos.Given as goal

-- those so far that stay
abbrev pub invariant-loop-info : goal.invariant-loop-info
invariant-loop-info l = l.staying ≡ filter (stays l.changes) (take l.info-index l.info-items)
