use Rattle.std.proofs.Common.{◌+◌, ◌*◌}
use Rattle.lfs_fsck.specs.Checks.{IsCounted}
use Rattle.lfs_fsck.proofs.checking.count_children.Given as goal

abbrev pub invariant-loop-child : goal.invariant-loop-child
invariant-loop-child l = IsCounted l.log l.inode.number (271 + 128 * l.child) l.counts.items
