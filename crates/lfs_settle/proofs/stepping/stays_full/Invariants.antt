use Rattle.std.proofs.Common.{◌↔◌, false, length}
use Rattle.lfs_settle.specs.Interleaving.{StaysFull}
use Rattle.lfs_settle.proofs.stepping.stays_full.Given as goal

abbrev pub invariant-loop-answer : goal.invariant-loop-answer
invariant-loop-answer l = StaysFull l.was_full l.rest ↔ StaysFull false l.fn.answers

abbrev pub decreases-loop-answer : goal.decreases-loop-answer
decreases-loop-answer l = length l.rest
