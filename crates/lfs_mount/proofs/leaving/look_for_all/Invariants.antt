use Rattle.std.proofs.Common.{◌≡◌, ℕ, ◌<◌, ◌≤◌, None}
use Rattle.std.specs.Prelude.{slice_index_or}
use Rattle.lfs_mount.specs.Leaving.{IsLooked, IsLookedFor, IsSeenIn, IsUnseenIn}
use Rattle.lfs_mount.proofs.leaving.look_for_all.Given as goal

abbrev pub invariant-loop-slot : goal.invariant-loop-slot
invariant-loop-slot g l = record {
  looked : IsLooked g.F.FileStore.state l.fn.volume l.volume;
  done : (s : ℕ) → s < l.slot → IsLookedFor (IsSeenIn g.F.FileStore.state l.fn.volume l.leaving.sight)
      (IsUnseenIn g.F.FileStore.state l.fn.volume l.leaving.sight) l.leaving.node s l.fn.opens.files.items l.opens.files.items;
  rest : (s : ℕ) → l.slot ≤ s → slice_index_or l.opens.files.items s None
      ≡ slice_index_or l.fn.opens.files.items s None;
}
