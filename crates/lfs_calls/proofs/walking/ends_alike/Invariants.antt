use Rattle.std.proofs.Common.{drop}
use Rattle.lfs_types.specs.Tree.{World, root}
use Rattle.lfs_calls.specs.Volumes.{IsVolume}
use Rattle.lfs_calls.proofs.AlikeLemmas.{GoesAlike}
use Rattle.lfs_calls.proofs.walking.ends_alike.Given as goal

-- where the rest of the names leads alike from here, all of them do
abbrev pub invariant-loop-at : goal.invariant-loop-at
invariant-loop-at g l =
    (w : World) → IsVolume (g.F.FileStore.state l.store) w → GoesAlike w.rows l.uid l.at l.dir (drop l.at l.names)
    → GoesAlike w.rows l.uid 0 root l.names
