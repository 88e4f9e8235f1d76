use Rattle.lfs_inodes.specs.Reading.{fields_of}
use Rattle.lfs_reach.specs.Walks.{Adds, IsWalk}
use Rattle.lfs_reach.proofs.ReachLemmas.{IsNamedBelow}
use Rattle.lfs_reach.proofs.reaching.reach_named.Given as goal

-- what the blocks so far list was reached
abbrev pub invariant-loop-index : goal.invariant-loop-index
invariant-loop-index l = record {
  walk : IsWalk l.marks.items l.order.items;
  added : Adds (IsNamedBelow l.memory (fields_of l.inode) l.index) l.fn.order.items l.order.items;
}
