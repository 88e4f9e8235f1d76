use Rattle.std.proofs.Common.{◌≡◌}
use Rattle.lfs_recency.specs.FrameLists.{frame_count}
use Rattle.lfs_bench.proofs.frames.move_each.Given as goal

abbrev pub invariant-loop-number : goal.invariant-loop-number
invariant-loop-number l = frame_count l.frames ≡ frame_count l.initial.frames
