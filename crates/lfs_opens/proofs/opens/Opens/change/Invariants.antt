use Rattle.std.proofs.Common.{◌≡◌, ℕ, ◌<◌, ◌≤◌, None}
use Rattle.std.specs.Prelude.{slice_index_or}
use Rattle.lfs_fuse_wire.specs.Views.{view}
use Rattle.lfs_opens.specs.Rewritten.{file_behind, kept_behind, shown_slot}
use Rattle.lfs_opens.proofs.opens.Opens.change.Given as goal

abbrev pub invariant-loop-slot : goal.invariant-loop-slot
invariant-loop-slot l = record {
  done : (s : ℕ) → s < l.slot → shown_slot (slice_index_or l.self.files.items s None)
      ≡ file_behind (kept_behind l.head.time l.head.cred (view l.message)) l.head.node
      (shown_slot (slice_index_or l.fn.self.files.items s None));
  rest : (s : ℕ) → l.slot ≤ s → slice_index_or l.self.files.items s None
      ≡ slice_index_or l.fn.self.files.items s None;
}
