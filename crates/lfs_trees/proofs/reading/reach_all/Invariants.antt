use Rattle.std.proofs.Common.{◌≡◌, ◌-◌, length}
use Rattle.lfs_trees.specs.Walks.{Stands}
use Rattle.lfs_trees.proofs.reading.reach_all.Given as goal

abbrev pub invariant-loop-number : goal.invariant-loop-number
invariant-loop-number g l = record {
  stands : Stands (g.F.FileStore.state l.fn.store).content l.walk;
  numbers : length l.walk.marks.items ≡ l.numbers;
  state : g.F.FileStore.state l.store ≡ g.F.FileStore.state l.fn.store;
}

abbrev pub decreases-loop-number : goal.decreases-loop-number
decreases-loop-number g l = l.numbers - l.walk.done
