use Rattle.std.proofs.Common.{◌≡◌, ℕ, ◌<◌, ◌≤◌, None}
use Rattle.std.specs.Prelude.{slice_index_or}
use Rattle.lfs_opens.specs.Opens.{unkept}
use Rattle.lfs_opens.proofs.opens.Opens.unkeep.Given as goal

abbrev pub invariant-loop-slot : goal.invariant-loop-slot
invariant-loop-slot l = record {
  done : (s : ℕ) → s < l.slot → slice_index_or l.self.files.items s None
      ≡ unkept l.node (slice_index_or l.fn.self.files.items s None);
  rest : (s : ℕ) → l.slot ≤ s → slice_index_or l.self.files.items s None
      ≡ slice_index_or l.fn.self.files.items s None;
}
