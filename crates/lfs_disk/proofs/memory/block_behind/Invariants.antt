use Rattle.std.proofs.Common.{◌≡◌, [], get_or, take}
use Rattle.lfs_disk.specs.Calls.{seen_after}
use Rattle.lfs_disk.proofs.memory.block_behind.Given as goal

-- the block behind the calls so far
abbrev pub invariant-loop-call : goal.invariant-loop-call
invariant-loop-call l = l.seen ≡ get_or (seen_after l.first (take l.call-index l.calls)) l.address []
