use Rattle.std.proofs.Common.{◌≡◌, ◌++◌, drop}
use Rattle.std.specs.Prelude.{IsSome}
use Rattle.std.specs.FinMap.{get}
use Rattle.lfs_types.specs.Tree.{World, root}
use Rattle.lfs_calls.specs.Volumes.{IsVolume}
use Rattle.lfs_explain.specs.Trails.{rows_along}
use Rattle.lfs_explain.proofs.looking.rows_along.Given as goal

-- the trail of all the names is the rows so far, and the trail of the rest from here
abbrev pub invariant-loop-name : goal.invariant-loop-name
invariant-loop-name g l = record {
  rows_along : (w : World) → IsVolume (g.F.FileStore.state l.fn.store) w → rows_along w.rows root l.names ≡ l.rows.items
      ++ rows_along w.rows l.at (drop l.name-index l.names);
  used : IsSome (get (g.F.FileStore.state l.store).content l.at);
  state : g.F.FileStore.state l.store ≡ g.F.FileStore.state l.fn.store;
}
