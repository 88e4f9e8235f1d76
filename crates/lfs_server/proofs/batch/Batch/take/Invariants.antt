use Rattle.std.proofs.Common.{◌≡◌, ◌++◌, take}
use Rattle.lfs_server.proofs.batch.Batch.take.Given as goal

abbrev pub invariant-loop-cred : goal.invariant-loop-cred
invariant-loop-cred l = l.self.calls.items ≡ l.fn.self.calls.items ++ take l.cred-index l.fn.lines
