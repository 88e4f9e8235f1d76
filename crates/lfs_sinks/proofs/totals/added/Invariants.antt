use Rattle.std.proofs.Common.{◌≡◌, take}
use Rattle.lfs_sinks.specs.Sums.{sums}
use Rattle.lfs_sinks.proofs.totals.added.Given as goal

abbrev pub invariant-loop-place : goal.invariant-loop-place
invariant-loop-place l = l.all ≡ sums l.numbers (take l.place l.others)
