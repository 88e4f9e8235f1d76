use Rattle.std.proofs.Common.{◌-◌, ◌/◌}
use Rattle.lfs_types.specs.Stored.{bytes_of}
use Rattle.lfs_known.specs.Spots.{ArePlaced}
use Rattle.lfs_calls.proofs.DirBlockLemmas.{AreStill}
use Rattle.lfs_calls.proofs.SearchLemmas.{AreEnteredBefore}
use Rattle.lfs_calls.proofs.directory.learn_names.Given as goal

-- what the table knew is so still, and the names of the blocks so far were entered
abbrev pub invariant-loop-stored : goal.invariant-loop-stored
invariant-loop-stored g l = record {
  placed : ArePlaced l.table (g.F.FileStore.state l.fn.store).content;
  entered : AreEnteredBefore l.table.spots.items l.dir
      (bytes_of (g.F.FileStore.state l.fn.store).content l.dir) l.blocks.next;
  still : AreStill l.blocks (g.F.FileStore.state l.store) (g.F.FileStore.state l.fn.store) l.dir l.size;
}

abbrev pub decreases-loop-stored : goal.decreases-loop-stored
decreases-loop-stored g l = l.blocks.size / 512 - l.blocks.next
