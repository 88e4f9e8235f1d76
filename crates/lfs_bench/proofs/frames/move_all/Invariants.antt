use Rattle.std.proofs.Common.{◌≤◌}
use Rattle.lfs_recency.specs.FrameLists.{frame_count}
use Rattle.lfs_bench.proofs.frames.move_all.Given as goal

abbrev pub invariant-loop-round : goal.invariant-loop-round
invariant-loop-round l = l.count ≤ frame_count l.frames
