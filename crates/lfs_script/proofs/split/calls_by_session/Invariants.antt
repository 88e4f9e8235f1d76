use Rattle.std.proofs.Common.{◌≡◌, List, ◌++◌, length, map}
use Rattle.lfs_script.specs.Splitting.{Sorts}
use Rattle.lfs_script.specs.declared.plan.Step.{Step}
use Rattle.lfs_script.proofs.split.calls_by_session.Given as goal

abbrev pub invariant-loop-step : goal.invariant-loop-step
invariant-loop-step l = record {
  counted : length (map (λ list. list.items) l.lists.items) ≡ l.count;
  done : List Step;
  whole : l.fn.steps ≡ done ++ l.step-iterator;
  sorted : Sorts done l.count (map (λ list. list.items) l.lists.items);
}
