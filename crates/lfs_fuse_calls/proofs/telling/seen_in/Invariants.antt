use Rattle.std.proofs.Common.{◌≡◌, length}
use Rattle.lfs_fuse_calls.specs.Telling.{seen_in}
use Rattle.lfs_fuse_calls.proofs.telling.seen_in.Given as goal

abbrev pub invariant-loop-first : goal.invariant-loop-first
invariant-loop-first l = seen_in l.rest ≡ seen_in l.answers

abbrev pub decreases-loop-first : goal.decreases-loop-first
decreases-loop-first l = length l.rest
