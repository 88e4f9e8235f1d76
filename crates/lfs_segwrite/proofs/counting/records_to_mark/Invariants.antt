use Rattle.std.proofs.Common.{◌≡◌, ◌≤◌, take}
use Rattle.lfs_segwrite.specs.Marking.{records_to_mark}
use Rattle.lfs_segwrite.proofs.counting.records_to_mark.Given as goal

-- the numbers of the infos so far
abbrev pub invariant-loop-index : goal.invariant-loop-index
invariant-loop-index l = (l.records ≡ records_to_mark (take l.index l.named)) × (l.records ≤ l.index)
