-- An entry that changes nothing may be left out: `idle_left_out`, for the law `users_alone`. The cleaner's entries,
-- Syncs and refusals leave the world as it is (`stays`), so the entries behind one are made in the same worlds without
-- it.
use Rattle.std.proofs.Common.{◌≡◌, ℕ, [], ◌∷◌, refl, subst, sym, ap}
use Rattle.lfs_types.specs.Caller.{Caller}
use Rattle.lfs_types.specs.Tree.{World}
use Rattle.lfs_types.specs.declared.answer.Answer.TheVariants.{Served, Denied, Refused}
use Rattle.lfs_types.specs.declared.request.Request.TheVariants.{Sync}
use Rattle.lfs_model.specs.declared.journal.Event.{Event}
use Rattle.lfs_model.specs.declared.journal.Event.TheVariants.{User, Cleaner}
use Rattle.lfs_model.specs.Steps.{IsLegal, after_event, world_after}
use Rattle.lfs_laws.specs.LawsRuns.{IdleLeftOut, IsIdle}

stays : (numbers : ℕ) (w : World) (caller : Caller) (event : Event) → IsIdle event → after_event numbers w caller event
    ≡ w
stays numbers w caller (Cleaner kind outcome) idle = refl
stays numbers w caller (User Sync (Served shown)) idle = refl
stays numbers w caller (User Sync (Denied denial)) idle = refl
stays numbers w caller (User Sync (Refused resource)) idle = refl
stays numbers w caller (User request (Refused resource)) idle = refl
stays numbers w caller event idle = absurd idle

pub idle_left_out : IdleLeftOut
idle_left_out numbers segments [] e later w idle legal =
    let same = stays numbers w e.cred e.event idle in
    (subst (IsLegal numbers segments later) same legal.1, sym (ap (world_after numbers later) same))
idle_left_out numbers segments (x ∷ before) e later w idle legal =
    let rest = idle_left_out numbers segments before e later (after_event numbers w x.cred x.event) idle legal.1 in
    ((legal.0, rest.0), rest.1)
