use Rattle.std.proofs.Common.{◌≡◌, length}
use Rattle.lfs_fuse_calls.specs.Telling.{refusal_in}
use Rattle.lfs_fuse_calls.proofs.telling.refusal_in.Given as goal

abbrev pub invariant-loop-first : goal.invariant-loop-first
invariant-loop-first l = refusal_in l.rest ≡ refusal_in l.answers

abbrev pub decreases-loop-first : goal.decreases-loop-first
decreases-loop-first l = length l.rest
