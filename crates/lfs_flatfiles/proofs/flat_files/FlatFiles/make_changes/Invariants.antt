use Rattle.std.proofs.Common.{◌≡◌, drop, All, vec_len}
use Rattle.lfs_types.specs.Changes.{CanChangeAll, applied}
use Rattle.lfs_flatfiles.specs.FlatFiles.{content_of, HasRoom}
use Rattle.lfs_flatfiles.proofs.flat_files.FlatFiles.make_changes.Given as goal

abbrev pub invariant-loop-change : goal.invariant-loop-change
invariant-loop-change l = record {
  content : applied (drop l.change-index l.changes) (content_of l.self.places.items)
      ≡ applied l.changes (content_of l.fn.self.places.items);
  numbers : vec_len l.self.places ≡ vec_len l.fn.self.places;
  can : CanChangeAll (vec_len l.self.places) (drop l.change-index l.changes) (content_of l.self.places.items);
  room : All (HasRoom l.self.places.items) l.changes;
}
