use Rattle.std.proofs.Common.{◌≡◌, length}
use Rattle.lfs_opens.specs.Opens.{NoneIsOpen}
use Rattle.lfs_opens.proofs.opens.Opens.new.Given as goal

abbrev pub invariant-loop : goal.invariant-loop
invariant-loop l = record {
  none : NoneIsOpen l.files.items;
  counted : length l.files.items ≡ l.counter;
}
