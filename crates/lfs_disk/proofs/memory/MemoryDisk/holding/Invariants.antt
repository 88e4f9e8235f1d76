use Rattle.std.proofs.Common.{◌≡◌, take}
use Rattle.lfs_disk.proofs.memory.MemoryDisk.holding.Given as goal

-- the blocks so far
abbrev pub invariant-loop-address : goal.invariant-loop-address
invariant-loop-address l = l.first.items ≡ take l.address l.memory.blocks
