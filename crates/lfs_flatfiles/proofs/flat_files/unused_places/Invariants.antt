use Rattle.std.proofs.Common.{◌≡◌, ℕ, None, vec_len}
use Rattle.lfs_flatfiles.specs.FlatFiles.{file_in}
use Rattle.lfs_flatfiles.proofs.flat_files.unused_places.Given as goal

abbrev pub invariant-loop-index : goal.invariant-loop-index
invariant-loop-index l = record {
  none : (ino : ℕ) → file_in l.places.items ino ≡ None;
  count : vec_len l.places ≡ l._index;
}
