use Rattle.lfs_dirs.specs.Reading.{entries_of}
use Rattle.lfs_reach.specs.Walks.{IsWalk}
use Rattle.lfs_reach.proofs.WalkLemmas.{IsAmong}
use Rattle.lfs_reach.proofs.reaching.reach_listed.Given as goal

-- what the entries so far list was reached
abbrev pub invariant-loop-number : goal.invariant-loop-number
invariant-loop-number l = record {
  can_next : (goal.iterator-loop-number).can_next l.number-iterator;
  is_finite : (goal.iterator-loop-number).is_finite l.number-iterator;
  walk : IsWalk l.marks.items l.order.items;
  among : IsAmong (entries_of l.block) l.number-iterator l.fn.order.items l.order.items;
}
