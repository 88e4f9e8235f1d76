use Rattle.std.proofs.Common.{◌≡◌, None}
use Rattle.std.specs.Prelude.{replicate}
use Rattle.lfs_auditing.proofs.last.LastOnes.none.Given as goal

abbrev pub invariant-loop : goal.invariant-loop
invariant-loop l = l.ones.items ≡ replicate l.counter None
