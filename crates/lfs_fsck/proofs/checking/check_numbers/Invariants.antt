use Rattle.lfs_fsck.specs.Checks.{AreChecked, IsCounted}
use Rattle.lfs_fsck.proofs.checking.check_numbers.Given as goal

abbrev pub invariant-loop-number : goal.invariant-loop-number
invariant-loop-number l = record {
  counted : IsCounted l.log l.number 0 l.counts.items;
  files : AreChecked l.log l.number;
}
