use Rattle.std.proofs.Common.{◌≡◌}
use Rattle.lfs_types.specs.Stored.{bytes_of}
use Rattle.lfs_calls.specs.Content.{entries_below}
use Rattle.lfs_trace.specs.Alike.{AreListed}
use Rattle.lfs_trace.specs.Checking.{plain_state}
use Rattle.lfs_trace.proofs.alike.lists_all.Given as goal

-- the entries of the blocks so far are listed
abbrev pub invariant-loop-index : goal.invariant-loop-index
invariant-loop-index g l = record {
  listed : AreListed (bytes_of (plain_state l.fn.plain).content l.number)
      (entries_below (bytes_of (g.F.FileStore.state l.fn.store).content l.number) l.index);
  plain : plain_state l.plain ≡ plain_state l.fn.plain;
  state : g.F.FileStore.state l.store ≡ g.F.FileStore.state l.fn.store;
}
