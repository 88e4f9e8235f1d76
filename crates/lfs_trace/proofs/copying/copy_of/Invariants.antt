use Rattle.std.proofs.Common.{◌≡◌}
use Rattle.std.specs.Vec.{vec_len}
use Rattle.lfs_flatfiles.specs.FlatFiles.{content_of}
use Rattle.lfs_trace.proofs.CopyLemmas.{AreCopied}
use Rattle.lfs_trace.proofs.copying.copy_of.Given as goal

-- the numbers so far are copied
abbrev pub invariant-loop-number : goal.invariant-loop-number
invariant-loop-number g l = record {
  copied : AreCopied (g.F.FileStore.state l.fn.store).content (content_of l.files.places.items) l.number;
  numbers : vec_len l.files.places ≡ l.numbers;
  state : g.F.FileStore.state l.store ≡ g.F.FileStore.state l.fn.store;
}
