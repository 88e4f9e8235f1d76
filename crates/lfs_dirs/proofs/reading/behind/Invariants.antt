use Rattle.std.proofs.Common.{length}
use Rattle.lfs_dirs.proofs.Removing.{IsFront}
use Rattle.lfs_dirs.proofs.reading.behind.Given as goal

-- the entries so far have other names
abbrev pub invariant-loop-found : goal.invariant-loop-found
invariant-loop-found l = record { front : IsFront l.block l.name l.rest }

abbrev pub decreases-loop-found : goal.decreases-loop-found
decreases-loop-found l = length l.rest
