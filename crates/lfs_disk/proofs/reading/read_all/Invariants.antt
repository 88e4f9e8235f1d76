use Rattle.std.proofs.Common.{◌≡◌, take}
use Rattle.lfs_disk.specs.Disk.{LeavesOnly}
use Rattle.lfs_disk.proofs.reading.read_all.Given as goal

-- the blocks so far, and a disk of which nothing has changed
abbrev pub invariant-loop-address : goal.invariant-loop-address
invariant-loop-address g l = record {
  blocks : l.blocks.items ≡ take l.address (g.D.BlockDisk.seen l.fn.disk);
  seen : g.D.BlockDisk.seen l.disk ≡ g.D.BlockDisk.seen l.fn.disk;
  crash : LeavesOnly g.D.BlockDisk.time g.D.BlockDisk.left_since l.fn.disk l.disk (g.D.BlockDisk.may_leave l.fn.disk);
}
