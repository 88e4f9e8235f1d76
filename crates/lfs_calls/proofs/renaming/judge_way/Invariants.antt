use Rattle.std.proofs.Common.{◌≡◌, ℕ, drop, Ok}
use Rattle.lfs_calls.specs.Volumes.{IsVolume}
use Rattle.std.specs.Prelude.{IsSome}
use Rattle.std.specs.FinMap.{get}
use Rattle.lfs_types.specs.Tree.{World}
use Rattle.lfs_model.specs.Walks.{walked}
use Rattle.lfs_model.proofs.MovedWay.{IsRest}
use Rattle.lfs_calls.proofs.renaming.judge_way.Given as goal

-- the directory isn't among the rows so far
abbrev pub invariant-loop-at : goal.invariant-loop-at
invariant-loop-at g l = record {
  rest : (w : World) → IsVolume (g.F.FileStore.state l.fn.store) w
      → IsRest w.rows l.names l.number l.at l.dir (drop l.at l.names);
  leads : (w : World) → IsVolume (g.F.FileStore.state l.fn.store) w → (n : ℕ)
      × (walked w.rows l.cred 1 l.at l.dir (drop l.at l.names) ≡ Ok n);
  used : IsSome (get (g.F.FileStore.state l.store).content l.dir);
  state : g.F.FileStore.state l.store ≡ g.F.FileStore.state l.fn.store;
}
