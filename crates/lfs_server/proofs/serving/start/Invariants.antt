use Rattle.std.proofs.Common.{◌≡◌, ◌+◌, length}
use Rattle.lfs_server.proofs.serving.start.Given as goal

abbrev pub invariant-loop-session : goal.invariant-loop-session
invariant-loop-session g l = length l.threads.items ≡ length l.fn.threads.items + length l.yielded
