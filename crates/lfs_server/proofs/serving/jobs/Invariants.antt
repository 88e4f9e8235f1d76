use Rattle.std.proofs.Common.{◌≡◌, vec_len}
use Rattle.lfs_server.proofs.serving.jobs.Given as goal

abbrev pub invariant-loop-script : goal.invariant-loop-script
invariant-loop-script l = vec_len l.jobs ≡ l.script-index
