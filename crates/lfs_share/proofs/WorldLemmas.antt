-- A store with a share shows the worlds that its log store shows: `told_shared`, for `check`. The state says besides
-- only that there is a share, and which worlds a store shows is a matter of its content.
use Rattle.std.proofs.Common.{Result, Ok, Err, IfOk}
use Rattle.lfs_types.specs.StoreStates.{StoreState}
use Rattle.lfs_types.specs.Tree.{World}
use Rattle.lfs_calls.specs.Volumes.{HasWorld, IsVolume}
use Rattle.lfs_share.specs.Answering.{with_share}

pub same_volume : (s : StoreState) (w : World) → IsVolume (with_share s) w → IsVolume s w
same_volume s w v = record { shows = v.shows; tree = v.tree }

pub same_world : (s : StoreState) → HasWorld (with_share s) → HasWorld s
same_world s h = (h.0, same_volume s h.0 h.1)

-- what is told where there is a world is told of a store with a share
pub told_shared : {T E : Type 0} (s : StoreState) (result : Result T E) (P : T → Type 0)
    → IfOk result (λ text. HasWorld s → P text) → IfOk result (λ text. HasWorld (with_share s) → P text)
told_shared s (Ok text) P told = λ world. told (same_world s world)
told_shared s (Err fault) P told = tt
