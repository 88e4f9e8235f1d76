use Rattle.std.proofs.Common.{◌≡◌, length}
use Rattle.lfs_server.proofs.serving.joined.Given as goal

abbrev pub invariant-loop-thread : goal.invariant-loop-thread
invariant-loop-thread g l = length l.transcripts.items ≡ length l.yielded
