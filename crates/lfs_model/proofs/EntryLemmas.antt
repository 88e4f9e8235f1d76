-- The users' entries alone are legal, and lead to the same world: `users_alone_law`. The entries that are left out are
-- the cleaner's, Syncs and refusals, which change nothing (`left_out`); so each entry that is kept is made in the world
-- in which it was made.
use Rattle.std.proofs.Common.{◌≡◌, ℕ, List, [], ◌∷◌, ◌++◌, refl}
use Rattle.lfs_types.specs.Caller.{Caller}
use Rattle.lfs_types.specs.Tree.{World}
use Rattle.lfs_types.specs.declared.answer.Answer.TheVariants.{Served, Denied, Refused}
use Rattle.lfs_types.specs.declared.request.Request.TheVariants.{Sync}
use Rattle.lfs_model.specs.declared.journal.Entry.{Entry}
use Rattle.lfs_model.specs.declared.journal.Event.{Event}
use Rattle.lfs_model.specs.declared.journal.Event.TheVariants.{User, Cleaner}
use Rattle.lfs_model.specs.Runs.{journaled, users_alone, users_event}
use Rattle.lfs_model.specs.Steps.{IsEvent, IsLegal, after_event, world_after}

-- entries and their users' alone, made from worlds that lead to the same
abbrev Alike : ℕ → ℕ → List Entry → World → List Entry → World → Type 0
Alike numbers segments users w entries v =
    IsLegal numbers segments users w × (world_after numbers users w ≡ world_after numbers entries v)

left_out : (numbers segments session : ℕ) (caller : Caller) (event : Event) (entries : List Entry) (w : World)
    → IsEvent numbers segments w caller event
    → Alike numbers segments (users_alone entries) (after_event numbers w caller event) entries
    (after_event numbers w caller event)
    → Alike numbers segments (journaled session caller (users_event event) ++ users_alone entries) w entries
    (after_event numbers w caller event)
left_out numbers segments session caller (User Sync (Served shown)) entries w is rest = rest
left_out numbers segments session caller (User Sync (Denied denial)) entries w is rest = rest
left_out numbers segments session caller (User Sync (Refused resource)) entries w is rest = rest
left_out numbers segments session caller (User request (Refused resource)) entries w is rest = rest
left_out numbers segments session caller (User request answer) entries w is rest = ((is, rest.0), rest.1)
left_out numbers segments session caller (Cleaner act outcome) entries w is rest = rest

pub users_alone_law : (numbers segments : ℕ) (entries : List Entry) (w : World) → IsLegal numbers segments entries w
    → IsLegal numbers segments (users_alone entries) w
    × (world_after numbers (users_alone entries) w ≡ world_after numbers entries w)
users_alone_law numbers segments [] w legal = (tt, refl)
users_alone_law numbers segments (e ∷ entries) w legal =
    left_out numbers segments e.session e.cred e.event entries w legal.0
    (users_alone_law numbers segments entries (after_event numbers w e.cred e.event) legal.1)
