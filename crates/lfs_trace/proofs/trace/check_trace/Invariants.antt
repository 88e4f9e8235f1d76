use Rattle.lfs_trace.proofs.StandingLemmas.{IsBehind}
use Rattle.lfs_trace.proofs.trace.check_trace.Given as goal

abbrev pub invariant-loop-at : goal.invariant-loop-at
invariant-loop-at l = IsBehind l.numbers l.segments l.entries l.at l.checker
