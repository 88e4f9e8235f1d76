use Rattle.std.proofs.Common.{◌≡◌}
use Rattle.lfs_bench.specs.Counting.{total}
use Rattle.lfs_bench.proofs.playing.count.Given as goal

abbrev pub invariant-loop-answer : goal.invariant-loop-answer
invariant-loop-answer l = total l.counts ≡ l.answer-index
