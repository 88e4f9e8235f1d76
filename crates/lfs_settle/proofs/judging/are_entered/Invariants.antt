use Rattle.std.proofs.Common.{◌↔◌, length}
use Rattle.lfs_settle.specs.Interleaving.{AreEntered}
use Rattle.lfs_settle.proofs.judging.are_entered.Given as goal

abbrev pub invariant-loop-call : goal.invariant-loop-call
invariant-loop-call l =
    AreEntered l.is_full l.rest l.session l.calls l.given
    ↔ AreEntered l.fn.is_full l.fn.entries l.fn.session l.fn.script l.fn.answers

abbrev pub decreases-loop-call : goal.decreases-loop-call
decreases-loop-call l = length l.calls
