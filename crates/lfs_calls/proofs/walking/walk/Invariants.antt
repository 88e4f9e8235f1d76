use Rattle.std.proofs.Common.{◌≡◌, drop}
use Rattle.std.specs.Prelude.{IsSome}
use Rattle.std.specs.FinMap.{get}
use Rattle.lfs_types.specs.Tree.{World, root}
use Rattle.lfs_calls.specs.Volumes.{IsVolume}
use Rattle.lfs_model.specs.Walks.{walked}
use Rattle.lfs_calls.proofs.walking.walk.Given as goal

-- where all the names lead is where the rest of them leads from here
abbrev pub invariant-loop-at : goal.invariant-loop-at
invariant-loop-at g l = record {
  walk : (w : World) → IsVolume (g.F.FileStore.state l.fn.store) w → walked w.rows l.cred l.path 0 root l.names
      ≡ walked w.rows l.cred l.path l.at l.dir (drop l.at l.names);
  used : IsSome (get (g.F.FileStore.state l.store).content l.dir);
  state : g.F.FileStore.state l.store ≡ g.F.FileStore.state l.fn.store;
}
