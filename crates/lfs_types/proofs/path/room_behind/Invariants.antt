use Rattle.std.proofs.Common.{◌≡◌, ◌+◌, length}
use Rattle.lfs_types.specs.Paths.{slashed}
use Rattle.lfs_types.proofs.path.room_behind.Given as goal

abbrev pub invariant-loop-name : goal.invariant-loop-name
invariant-loop-name l = length (slashed l.names) + l.left ≡ l.room + length (slashed l.rest)

abbrev pub decreases-loop-name : goal.decreases-loop-name
decreases-loop-name l = length l.rest
