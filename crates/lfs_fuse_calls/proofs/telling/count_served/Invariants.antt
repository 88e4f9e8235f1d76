use Rattle.std.proofs.Common.{◌≡◌, ◌+◌, ◌≤◌, min, length}
use Rattle.lfs_fuse_calls.specs.Telling.{count_served}
use Rattle.lfs_fuse_calls.proofs.telling.count_served.Given as goal

abbrev pub invariant-loop-first : goal.invariant-loop-first
invariant-loop-first l = record {
  same : min 32 (l.count + count_served l.rest) ≡ min 32 (count_served l.answers);
  few : l.count ≤ 32;
}

abbrev pub decreases-loop-first : goal.decreases-loop-first
decreases-loop-first l = length l.rest
