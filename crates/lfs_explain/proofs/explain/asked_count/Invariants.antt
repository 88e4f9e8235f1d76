use Rattle.lfs_explain.proofs.StepsTold.{AsksOn}
use Rattle.lfs_explain.proofs.explain.asked_count.Given as goal

abbrev pub invariant-loop-at : goal.invariant-loop-at
invariant-loop-at l = AsksOn l.checks l.at
