use Rattle.std.proofs.Common.{◌≡◌, ◌-◌, length}
use Rattle.lfs_opens.specs.Rewritten.{bytes_kept}
use Rattle.lfs_opens.proofs.opens.room_beside.Given as goal

abbrev pub invariant-loop-first : goal.invariant-loop-first
invariant-loop-first l = l.room - bytes_kept l.rest ≡ 33554432 - bytes_kept l.files

abbrev pub decreases-loop-first : goal.decreases-loop-first
decreases-loop-first l = length l.rest
