use Rattle.std.proofs.Common.{◌≡◌, true}
use Rattle.lfs_disk.specs.Disk.{LeavesOnly}
use Rattle.lfs_disk.specs.Writing.{IsLeftBut, HasOthers}
use Rattle.lfs_disk.proofs.writing.write_blocks.Given as goal

-- the blocks so far, whatever a crash has left of them
abbrev pub invariant-loop-address : goal.invariant-loop-address
invariant-loop-address g l = record {
  written : HasOthers l.memory.blocks l.start l.address (g.D.BlockDisk.seen l.fn.disk) (g.D.BlockDisk.seen l.disk);
  crash : LeavesOnly g.D.BlockDisk.time g.D.BlockDisk.left_since l.fn.disk l.disk
      (IsLeftBut l.start l.end (g.D.BlockDisk.may_leave l.fn.disk));
  failed : g.D.BlockDisk.has_failed l.fn.disk ≡ true → g.D.BlockDisk.has_failed l.disk ≡ true;
}
