use Rattle.std.proofs.Common.{length}
use Rattle.lfs_server.proofs.session.make_calls.Given as goal

abbrev pub decreases-loop-batch : goal.decreases-loop-batch
decreases-loop-batch g l = length l.batch.calls.items
