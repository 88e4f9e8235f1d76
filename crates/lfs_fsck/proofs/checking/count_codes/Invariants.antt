use Rattle.lfs_fsck.specs.Checks.{IsCounted}
use Rattle.lfs_fsck.proofs.checking.count_codes.Given as goal

abbrev pub invariant-loop-code : goal.invariant-loop-code
invariant-loop-code l = IsCounted l.log l.inode.number l.code l.counts.items
