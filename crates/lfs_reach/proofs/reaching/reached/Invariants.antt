use Rattle.std.proofs.Common.{◌-◌}
use Rattle.lfs_reach.specs.Walks.{IsWalk}
use Rattle.lfs_reach.proofs.ReachLemmas.{IsReaching}
use Rattle.lfs_reach.proofs.reaching.reached.Given as goal

-- the first numbers were read
abbrev pub invariant-loop-done : goal.invariant-loop-done
invariant-loop-done l = record {
  walk : IsWalk l.marks.items l.order.items;
  reaching : IsReaching l.memory l.places l.order.items l.done;
}

-- there are no more numbers than have a mark
abbrev pub decreases-loop-done : goal.decreases-loop-done
decreases-loop-done l = 4096 - l.done
