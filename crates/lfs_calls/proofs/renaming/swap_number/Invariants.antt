use Rattle.std.proofs.Common.{◌≡◌, ◌-◌, ◌/◌, None}
use Rattle.std.specs.Prelude.{IfSome}
use Rattle.lfs_types.specs.Stored.{bytes_of}
use Rattle.lfs_dirs.specs.Directory.{number_in}
use Rattle.lfs_dirs.specs.Reading.{entries_of}
use Rattle.lfs_calls.specs.Makes.{with_block}
use Rattle.lfs_calls.proofs.SearchLemmas.{IsAbsentBefore}
use Rattle.lfs_calls.proofs.renaming.swap_number.Given as goal

-- the name is in none of the blocks so far, nor in the one that is read in place of a stored one
abbrev pub invariant-loop-k : goal.invariant-loop-k
invariant-loop-k g l = record {
  absent : IsAbsentBefore l.name (with_block (bytes_of (g.F.FileStore.state l.fn.store).content l.dir.number) l.taken) l.k;
  taken : IfSome l.taken (λ room. number_in l.name (entries_of room.now.block) ≡ None);
  state : g.F.FileStore.state l.store ≡ g.F.FileStore.state l.fn.store;
}

abbrev pub decreases-loop-k : goal.decreases-loop-k
decreases-loop-k g l = l.size / 512 - l.k
