use Rattle.std.proofs.Common.{◌≡◌, ◌<◌, true, length}
use Rattle.lfs_disk.specs.Disk.{LeavesOnly}
use Rattle.lfs_disk.specs.Writing.{HasOthers}
use Rattle.lfs_disk_start.specs.Mixing.{IsMixtureOf}
use Rattle.lfs_disk_start.proofs.writing.put_others.Given as goal

-- the blocks so far, whatever a crash has left of them
abbrev pub invariant-loop-address : goal.invariant-loop-address
invariant-loop-address g l = record {
  written : HasOthers l.new.blocks 0 l.address (g.D.BlockDisk.seen l.fn.disk) (g.D.BlockDisk.seen l.disk);
  crash : LeavesOnly g.D.BlockDisk.time g.D.BlockDisk.left_since l.fn.disk l.disk
      (IsMixtureOf l.old.blocks l.new.blocks);
  failed : g.D.BlockDisk.has_failed l.fn.disk ≡ true → g.D.BlockDisk.has_failed l.disk ≡ true;
  long : 0 < l.address → length l.new.blocks ≡ length l.old.blocks;
}
