use Rattle.std.proofs.Common.{◌≤◌, ◌+◌}
use Rattle.lfs_types.proofs.path.count_names.Given as goal

abbrev pub invariant-loop-byte : goal.invariant-loop-byte
invariant-loop-byte l = l.count ≤ l.byte-index + 1
