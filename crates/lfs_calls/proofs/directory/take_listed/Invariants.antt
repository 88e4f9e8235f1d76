use Rattle.std.proofs.Common.{◌-◌, ◌/◌}
use Rattle.lfs_types.specs.Stored.{bytes_of}
use Rattle.lfs_calls.proofs.DirBlockLemmas.{AreStill}
use Rattle.lfs_calls.proofs.SearchLemmas.{IsAbsentBefore}
use Rattle.lfs_calls.proofs.directory.take_listed.Given as goal

-- the name is in none of the blocks so far
abbrev pub invariant-loop-stored : goal.invariant-loop-stored
invariant-loop-stored g l = record {
  absent : IsAbsentBefore l.name (bytes_of (g.F.FileStore.state l.fn.store).content l.dir) l.blocks.next;
  still : AreStill l.blocks (g.F.FileStore.state l.store) (g.F.FileStore.state l.fn.store) l.dir l.size;
}

abbrev pub decreases-loop-stored : goal.decreases-loop-stored
decreases-loop-stored g l = l.blocks.size / 512 - l.blocks.next
