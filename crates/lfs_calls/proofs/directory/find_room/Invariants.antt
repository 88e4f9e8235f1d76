use Rattle.std.proofs.Common.{◌≡◌, ℕ, ◌+◌, ◌<◌, length}
use Rattle.lfs_types.specs.Stored.{bytes_of}
use Rattle.lfs_dirs.specs.Directory.{used_of}
use Rattle.lfs_dirs.specs.Reading.{entries_of}
use Rattle.lfs_calls.specs.Content.{block_at}
use Rattle.lfs_calls.specs.Makes.{with_block}
use Rattle.lfs_calls.proofs.directory.find_room.Given as goal

-- the name fits in none of the blocks so far
abbrev pub invariant-loop-k : goal.invariant-loop-k
invariant-loop-k g l = record {
  full : (j : ℕ) → j < l.k → 512 < used_of
      (entries_of (block_at (with_block (bytes_of (g.F.FileStore.state l.fn.store).content l.dir.number) l.taken) j)) + 5
      + length l.name;
  state : g.F.FileStore.state l.store ≡ g.F.FileStore.state l.fn.store;
}
