use Rattle.lfs_cleaner.specs.Passing.{calls_left}
use Rattle.lfs_server.proofs.cleaner.run_pass.Given as goal

abbrev pub decreases-loop-call : goal.decreases-loop-call
decreases-loop-call g l = calls_left l.pass
