use Rattle.std.proofs.Common.{◌≡◌, ◌++◌, length}
use Rattle.lfs_bench.specs.Counting.{total}
use Rattle.lfs_bench.proofs.playing.play.Given as goal

abbrev pub invariant-loop-call : goal.invariant-loop-call
invariant-loop-call g l =
    (total l.counts ≡ length l.yielded)
    × (l.yielded ++ l.call-iterator.rest.items ≡ l.fn.calls.items)
