use Rattle.std.proofs.Common.{length}
use Rattle.lfs_dirs.proofs.Ending.{IsFrontOf}
use Rattle.lfs_dirs.proofs.writing.without_zeros.Given as goal

abbrev pub invariant-loop-last : goal.invariant-loop-last
invariant-loop-last l = record { front : IsFrontOf l.front l.bytes }

abbrev pub decreases-loop-last : goal.decreases-loop-last
decreases-loop-last l = length l.front
