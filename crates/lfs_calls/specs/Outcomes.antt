-- What a user's call may be answered over a store, with the cause of each refusal.
use Rattle.std.specs.Prelude.{◌≡◌, ℕ, ◌==◌, List, Option, None, Some, if◌then◌else◌}
use Rattle.lfs_types.specs.Caller.{Caller}
use Rattle.lfs_types.specs.StoreStates.{MayLackSpace, StoreState}
use Rattle.lfs_types.specs.Stored.{bytes_of}
use Rattle.lfs_types.specs.Tree.{World, Content, root}
use Rattle.lfs_types.specs.declared.answer.Answer.{Answer}
use Rattle.lfs_types.specs.declared.answer.Answer.TheVariants.{Served, Denied, Refused}
use Rattle.lfs_types.specs.declared.answer.Resource.TheVariants.{NoMemory, NoSpace, NoInodes, DirectoryFull}
use Rattle.lfs_types.specs.declared.answer.Resource.TheVariants.{JournalFull}
use Rattle.lfs_types.specs.declared.request.Request.{Request}
use Rattle.lfs_types.specs.declared.request.Request.TheVariants.{Create, Mkdir, Rename}
use Rattle.lfs_model.specs.World.{Rows, child}
use Rattle.lfs_model.specs.Rules.{decide, front, last, reached}
use Rattle.lfs_calls.specs.Content.{FitsNowhere}
use Rattle.lfs_model.specs.Steps.{IsAnswer, LacksInodes}
use Rattle.lfs_model.specs.Memory.{MayLackMemory}

-- the name that a Rename takes away from the directory of the new name, if it is there
abbrev pub taken_from : Rows → List (List ℕ) → List (List ℕ) → Option (List ℕ)
taken_from rows from to =
    if reached rows root (front from) == reached rows root (front to)
    then Some (last from) else None

-- the call wants a new name that fits in no block of its directory, which has all the blocks that it may have; a Rename
-- only one that isn't there, once its old name is taken away
abbrev pub FillsDirectory : Content → World → Request → Type 0
FillsDirectory c w (Create path mode) =
    FitsNowhere (bytes_of c (reached w.rows root (front path))) None (last path)
FillsDirectory c w (Mkdir path mode) =
    FitsNowhere (bytes_of c (reached w.rows root (front path))) None (last path)
FillsDirectory c w (Rename from to) =
    (child w.rows (reached w.rows root (front to)) (last to) ≡ None)
    × FitsNowhere (bytes_of c (reached w.rows root (front to)))
    (taken_from w.rows from to) (last to)
FillsDirectory c w request = ⊥

-- A call may be answered so over a store in this state that shows this world: by a step of the volume, NoSpace only
-- where a change may lack space, DirectoryFull exactly where the directory is full, NoMemory only where the call
-- would be served and may lack memory.
abbrev pub IsOutcome : StoreState → World → Caller → Request → Answer → Type 0
IsOutcome s w caller request (Served shown) =
    IsAnswer s.shape.numbers w caller request (Served shown)
    × (FillsDirectory s.content w request → ⊥)
IsOutcome s w caller request (Denied denial) =
    IsAnswer s.shape.numbers w caller request (Denied denial)
IsOutcome s w caller request (Refused NoMemory) =
    (decide w caller request ≡ None)
    × (LacksInodes s.shape.numbers w request → ⊥)
    × (FillsDirectory s.content w request → ⊥)
    × MayLackMemory s.shape.can_lack_memory request
IsOutcome s w caller request (Refused NoSpace) =
    IsAnswer s.shape.numbers w caller request (Refused NoSpace)
    × (FillsDirectory s.content w request → ⊥)
    × MayLackSpace s
IsOutcome s w caller request (Refused NoInodes) =
    IsAnswer s.shape.numbers w caller request (Refused NoInodes)
IsOutcome s w caller request (Refused DirectoryFull) =
    IsAnswer s.shape.numbers w caller request (Refused DirectoryFull)
    × FillsDirectory s.content w request
IsOutcome s w caller request (Refused JournalFull) = ⊥
