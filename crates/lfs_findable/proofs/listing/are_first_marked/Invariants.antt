use Rattle.std.proofs.Common.{◌<◌, ℕ}
use Rattle.lfs_recovery.specs.Logs.{log_place}
use Rattle.lfs_findable.specs.Judging.{IsMarkedOrNone}
use Rattle.lfs_findable.proofs.listing.are_first_marked.Given as goal

-- so it is in the segments so far
abbrev pub invariant-loop-segment : goal.invariant-loop-segment
invariant-loop-segment l = (s : ℕ) → s < l.segment → IsMarkedOrNone l.memory l.marks (log_place s)
