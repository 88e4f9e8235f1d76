use Rattle.std.proofs.Common.{◌≡◌, ◌-◌, ◌/◌, ◌≤◌, []}
use Rattle.lfs_types.specs.Stored.{bytes_of}
use Rattle.lfs_calls.specs.Content.{entries_below}
use Rattle.lfs_calls.proofs.DirBlockLemmas.{AreStill}
use Rattle.lfs_calls.proofs.directory.is_empty_directory.Given as goal

-- none of the blocks so far has an entry
abbrev pub invariant-loop-stored : goal.invariant-loop-stored
invariant-loop-stored g l = record {
  nothing : entries_below (bytes_of (g.F.FileStore.state l.fn.store).content l.dir) l.blocks.next ≡ [];
  within : l.blocks.next ≤ l.size / 512;
  still : AreStill l.blocks (g.F.FileStore.state l.store) (g.F.FileStore.state l.fn.store) l.dir l.size;
}

abbrev pub decreases-loop-stored : goal.decreases-loop-stored
decreases-loop-stored g l = l.size / 512 - l.blocks.next
