-- A durable store shows the worlds that its log store shows: `told_durable`, for `check`. Its state tells its base
-- besides, and which worlds a store shows is a matter of its content.
use Rattle.std.proofs.Common.{Result, Ok, Err, IfOk}
use Rattle.lfs_logstore.specs.States.{state_of}
use Rattle.lfs_calls.specs.Volumes.{HasWorld}
use Rattle.lfs_durable_store.specs.Keeping.{Durably, durable_state}

same_world : (s : Durably) → HasWorld (durable_state s) → HasWorld (state_of s.store)
same_world s h = (h.0, record { shows = h.1.shows; tree = h.1.tree })

-- what is told where there is a world is told of a durable store
pub told_durable : {T E : Type 0} (s : Durably) (result : Result T E) (P : T → Type 0)
    → IfOk result (λ text. HasWorld (state_of s.store) → P text)
    → IfOk result (λ text. HasWorld (durable_state s) → P text)
told_durable s (Ok text) P told = λ world. told (same_world s world)
told_durable s (Err fault) P told = tt
