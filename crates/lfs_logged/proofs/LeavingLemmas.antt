-- What a crash leaves of a volume that counts what is kept: `leaves_kept` and `leaves_all`, for `Logged::durable`. What is
-- found contains what the base does, or in a later flush what the store does, by the laws of the durable store; and the base
-- shows the tree of the entries that are kept.
use Rattle.lfs_types.specs.Tree.{World}
use Rattle.lfs_parts.specs.declared.parts.Parts.{Parts}
use Rattle.lfs_logstore.specs.States.{state_of}
use Rattle.lfs_calls.specs.Volumes.{IsVolume}
use Rattle.lfs_durable.specs.Runs.{ShowsTree}
use Rattle.lfs_durable_store.proofs.CrashLemmas.{survives, survives_later}
use Rattle.lfs_logged.specs.Keeping.{IsCounting, LeavesAll, LeavesKept, LoggedVolume}
use Rattle.lfs_logged.proofs.CountLemmas.{shows_as}

tree_of : (p : Parts) (w : World) → IsVolume (state_of p) w → ShowsTree p
tree_of p w v = record { world = w; shows = v.shows; tree = v.tree }

pub leaves_kept : (l : LoggedVolume) → IsCounting l → LeavesKept l
leaves_kept l c n found counted cut on = λ from begins.
    let v = c.base from begins in
    shows_as found l.volume.store.base _
    (survives l.volume.store c.store n found counted (tree_of l.volume.store.base _ v) cut on) v

pub leaves_all : (l : LoggedVolume) → IsCounting l → LeavesAll l
leaves_all l c n found later on = λ from begins.
    let v = c.all from begins in
    shows_as found l.volume.store.store _
    (survives_later l.volume.store n found (tree_of l.volume.store.store _ v) later on) v
