-- What holds of the world that any legal list of calls leads to.
use Rattle.std.specs.Prelude.{◌≡◌, ℕ, List, [], ◌∷◌, ◌++◌}
use Rattle.lfs_types.specs.Caller.{Caller}
use Rattle.lfs_types.specs.Tree.{World}
use Rattle.lfs_types.specs.declared.answer.Answer.TheVariants.{Served, Denied, Refused}
use Rattle.lfs_types.specs.declared.request.Request.{Request}
use Rattle.lfs_types.specs.declared.request.Request.TheVariants.{Sync}
use Rattle.lfs_model.specs.declared.journal.Call.{Call}
use Rattle.lfs_model.specs.declared.journal.Entry.{Entry}
use Rattle.lfs_model.specs.declared.journal.Event.{Event}
use Rattle.lfs_model.specs.declared.journal.Event.TheVariants.{User, Cleaner}
use Rattle.lfs_model.specs.Runs.{users_alone}
use Rattle.lfs_model.specs.Steps.{IsLegal, after_event, world_after}

-- an event is a user's call of a kind, and was served
abbrev pub IsServed : (Request → Type 0) → Event → Type 0
IsServed IsOne (User request (Served shown)) = IsOne request
IsServed IsOne (User request (Denied denial)) = ⊥
IsServed IsOne (User request (Refused resource)) = ⊥
IsServed IsOne (Cleaner act outcome) = ⊥

-- none of the entries, made one after another from this world on, is a call of a kind that was served
abbrev pub NoneServed : (World → Caller → Request → Type 0) → ℕ → List Entry → World → Type 0
NoneServed IsOne numbers [] w = Unit {0}
NoneServed IsOne numbers (entry ∷ entries) w =
    (IsServed (IsOne w entry.cred) entry.event → ⊥)
    × NoneServed IsOne numbers entries (after_event numbers w entry.cred entry.event)

-- the user's call of an event of a session, if it is one
abbrev pub call_of : ℕ → Caller → Event → List Call
call_of session caller (User request answer) = record { session = session; cred = caller; request = request } ∷ []
call_of session caller (Cleaner act outcome) = []

-- the users' calls of entries, in order
abbrev pub calls_of : List Entry → List Call
calls_of [] = []
calls_of (entry ∷ entries) = call_of entry.session entry.cred entry.event ++ calls_of entries

-- the entries without the cleaner's, the Syncs and those refused for a resource are legal between the same worlds
abbrev pub UsersAlone : Type 0
UsersAlone =
    (numbers segments : ℕ) (entries : List Entry) (w : World)
    → IsLegal numbers segments entries w
    → IsLegal numbers segments (users_alone entries) w
    × (world_after numbers (users_alone entries) w ≡ world_after numbers entries w)

-- an entry of the cleaner, of a Sync, or of a call that was refused for a resource
abbrev pub IsIdle : Event → Type 0
IsIdle (Cleaner act outcome) = Unit {0}
IsIdle (User Sync answer) = Unit {0}
IsIdle (User request (Refused resource)) = Unit {0}
IsIdle event = ⊥

-- each of them may be left out: the others are as legal, and lead to the same world
abbrev pub IdleLeftOut : Type 0
IdleLeftOut =
    (numbers segments : ℕ) (before : List Entry) (entry : Entry) (later : List Entry) (w : World)
    → IsIdle entry.event
    → IsLegal numbers segments (before ++ entry ∷ later) w
    → IsLegal numbers segments (before ++ later) w
    × (world_after numbers (before ++ later) w ≡ world_after numbers (before ++ entry ∷ later) w)

-- two lists of entries that are legal from one world, and whose users' entries alone make the same calls, have the same
-- answers to them and lead to the same world
abbrev pub SameAnswers : Type 0
SameAnswers =
    (numbers segments : ℕ) (es fs : List Entry) (w : World)
    → IsLegal numbers segments es w
    → IsLegal numbers segments fs w
    → calls_of (users_alone es) ≡ calls_of (users_alone fs)
    → (users_alone es ≡ users_alone fs) × (world_after numbers es w ≡ world_after numbers fs w)
