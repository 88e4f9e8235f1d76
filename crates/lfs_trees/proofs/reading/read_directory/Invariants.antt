use Rattle.std.proofs.Common.{◌≡◌, ◌<◌, ℕ}
use Rattle.lfs_types.specs.Stored.{bytes_of}
use Rattle.lfs_dirs.specs.Directory.{IsDirectoryBlock}
use Rattle.lfs_dirs.specs.Reading.{entries_of}
use Rattle.lfs_calls.specs.Content.{block_at, entries_below}
use Rattle.lfs_trees.specs.Walks.{HasNames, IsReading}
use Rattle.lfs_trees.proofs.reading.read_directory.Given as goal

abbrev pub invariant-loop-index : goal.invariant-loop-index
invariant-loop-index g l = record {
  reading : IsReading (g.F.FileStore.state l.fn.store).content l.fn.walk l.walk l.directory
      (entries_below (bytes_of (g.F.FileStore.state l.fn.store).content l.directory) l.index);
  named : HasNames l.names (entries_below (bytes_of (g.F.FileStore.state l.fn.store).content l.directory) l.index);
  blocks : (k : ℕ) → k < l.index → IsDirectoryBlock
      (block_at (bytes_of (g.F.FileStore.state l.fn.store).content l.directory) k)
      (entries_of (block_at (bytes_of (g.F.FileStore.state l.fn.store).content l.directory) k));
  state : g.F.FileStore.state l.store ≡ g.F.FileStore.state l.fn.store;
}
