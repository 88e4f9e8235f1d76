use Rattle.std.proofs.Common.{◌≡◌, ℕ, ◌<◌, get_or, vec_len}
use Rattle.lfs_types.specs.declared.store.Change.{Change}
use Rattle.lfs_flatfiles.specs.FlatFiles.{content_of, HasRoom}
use Rattle.lfs_flatfiles.proofs.flat_files.FlatFiles.make_room.Given as goal

abbrev pub invariant-loop-change : goal.invariant-loop-change
invariant-loop-change l = record {
  content : content_of l.self.places.items ≡ content_of l.fn.self.places.items;
  numbers : vec_len l.self.places ≡ vec_len l.fn.self.places;
  room : (k : ℕ) (d : Change) → k < l.change-index → HasRoom l.self.places.items (get_or l.changes k d);
}
