use Rattle.std.proofs.Common.{length}
use Rattle.lfs_server.specs.Telling.{AreMade}
use Rattle.lfs_server.proofs.kept.Kept.call_each.Given as goal

abbrev pub invariant-loop-cred : goal.invariant-loop-cred
invariant-loop-cred g l = AreMade l.fn.self.journal l.self.journal l.fn.batch l.batch

abbrev pub decreases-loop-cred : goal.decreases-loop-cred
decreases-loop-cred g l = length l.batch.calls.items
