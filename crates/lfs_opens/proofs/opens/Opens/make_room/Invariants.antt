use Rattle.std.proofs.Common.{◌≡◌, ℕ, ◌<◌, None}
use Rattle.std.specs.Prelude.{slice_index_or}
use Rattle.lfs_fuse_wire.specs.Views.{view}
use Rattle.lfs_opens.specs.Rewritten.{HasRoom, shown_slot}
use Rattle.lfs_opens.proofs.opens.Opens.make_room.Given as goal

abbrev pub invariant-loop-slot : goal.invariant-loop-slot
invariant-loop-slot l = record {
  same : (s : ℕ) → shown_slot (slice_index_or l.self.files.items s None)
      ≡ shown_slot (slice_index_or l.fn.self.files.items s None);
  room : (s : ℕ) → s < l.slot → HasRoom (view l.message) l.node (slice_index_or l.self.files.items s None);
}
