use Rattle.std.proofs.Common.{◌≡◌, ◌*◌, take}
use Rattle.lfs_types.specs.Stored.{bytes_of}
use Rattle.lfs_trace.proofs.alike.has_bytes.Given as goal

-- so many pieces are the same
abbrev pub invariant-loop-piece : goal.invariant-loop-piece
invariant-loop-piece g l = record {
  same : take (l.piece * 4096) (bytes_of (g.F.FileStore.state l.fn.store).content l.number)
      ≡ take (l.piece * 4096) l.bytes;
  state : g.F.FileStore.state l.store ≡ g.F.FileStore.state l.fn.store;
}
