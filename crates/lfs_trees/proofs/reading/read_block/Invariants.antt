use Rattle.std.proofs.Common.{◌≡◌, ◌+◌}
use Rattle.lfs_types.specs.Stored.{bytes_of}
use Rattle.lfs_calls.specs.Content.{entries_below}
use Rattle.lfs_trees.proofs.Parts.{HasPart}
use Rattle.lfs_trees.proofs.reading.read_block.Given as goal

abbrev pub invariant-loop-number : goal.invariant-loop-number
invariant-loop-number g l = record {
  can_next : (goal.iterator-loop-number g).can_next l.number-iterator;
  is_finite : (goal.iterator-loop-number g).is_finite l.number-iterator;
  part : HasPart (g.F.FileStore.state l.fn.store).content l.fn.walk l.walk l.names l.fn.place.directory
      (entries_below (bytes_of (g.F.FileStore.state l.fn.store).content l.fn.place.directory) (l.fn.place.index + 1))
      l.number-iterator;
  state : g.F.FileStore.state l.store ≡ g.F.FileStore.state l.fn.store;
}
