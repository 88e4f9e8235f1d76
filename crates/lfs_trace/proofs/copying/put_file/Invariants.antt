use Rattle.std.proofs.Common.{◌≡◌, ◌*◌, Some}
use Rattle.std.specs.FinMap as map
use Rattle.std.specs.Vec.{vec_len}
use Rattle.lfs_types.specs.Tree.{File}
use Rattle.lfs_flatfiles.specs.FlatFiles.{content_of}
use Rattle.lfs_trace.proofs.CopyLemmas.{IsPartly}
use Rattle.lfs_trace.proofs.copying.put_file.Given as goal

-- so many pieces are there
abbrev pub invariant-loop-piece : goal.invariant-loop-piece
invariant-loop-piece g l = record {
  part : (f : File) → map.get (g.F.FileStore.state l.fn.store).content l.number ≡ Some f
      → IsPartly f l.number (l.piece * 4096) (content_of l.fn.files.places.items) (content_of l.files.places.items);
  numbers : vec_len l.files.places ≡ vec_len l.fn.files.places;
  state : g.F.FileStore.state l.store ≡ g.F.FileStore.state l.fn.store;
}
