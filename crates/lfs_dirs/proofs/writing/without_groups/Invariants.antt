use Rattle.std.proofs.Common.{length}
use Rattle.lfs_dirs.proofs.Ending.{IsFrontOf}
use Rattle.lfs_dirs.proofs.writing.without_groups.Given as goal

abbrev pub invariant-loop-rest : goal.invariant-loop-rest
invariant-loop-rest l = record { front : IsFrontOf l.front l.bytes }

abbrev pub decreases-loop-rest : goal.decreases-loop-rest
decreases-loop-rest l = length l.front
