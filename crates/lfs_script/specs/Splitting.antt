-- Plans as scripts of sessions.
use Rattle.std.specs.Prelude.{◌≡◌, ℕ, ◌<◌, ◌==◌, Bool, true, false, nat_lt, List, [], ◌∷◌, ◌++◌, length, slice_index_or}
use Rattle.std.specs.Prelude.{slice_set, Option, None, Some, if◌then◌else◌}
use Rattle.std.specs.List.{filter_map}
use Rattle.lfs_types.specs.Caller.{Caller}
use Rattle.lfs_types.specs.declared.request.Request.{Request}
use Rattle.lfs_script.specs.declared.plan.Act.{Act}
use Rattle.lfs_script.specs.declared.plan.Act.TheVariants.{User, Cleaner, Pass}
use Rattle.lfs_script.specs.declared.plan.Step.{Step}
use Rattle.lfs_script.specs.declared.split.SplitFault.{SplitFault}
use Rattle.lfs_script.specs.declared.split.SplitFault.TheVariants.{CleanerLine, Memory}

abbrev pub is_cleaner_act : Act → Bool
is_cleaner_act (User request) = false
is_cleaner_act (Cleaner call) = true
is_cleaner_act Pass = true

-- whether a step asks for a call of the cleaner, or for a pass
abbrev pub is_of_cleaner : Step → Bool
is_of_cleaner step = is_cleaner_act step.act

abbrev pub is_cleaner_fault : SplitFault → Bool
is_cleaner_fault CleanerLine = true
is_cleaner_fault Memory = false

-- the user's call that a step asks for, where it does
abbrev pub act_call : Caller → Act → Option (Caller × Request)
act_call cred (User request) = Some (cred, request)
act_call cred (Cleaner call) = None
act_call cred Pass = None

-- the users' calls of a session, in order
abbrev pub calls_of : ℕ → List Step → List (Caller × Request)
calls_of session steps = filter_map (λ step. if step.session == session then act_call step.cred step.act
    else None) steps

-- list k has the calls of session k, for each session below `count`
abbrev pub Sorts : List Step → ℕ → List (List (Caller × Request)) → Type 0
Sorts steps count lists = (session : ℕ) → session < count → slice_index_or lists session [] ≡ calls_of session steps

-- lists with one more call in the list of its session, where there is one
abbrev pub with_call : List (List (Caller × Request)) → ℕ → Caller × Request → List (List (Caller × Request))
with_call lists session call =
    if nat_lt session (length lists) then slice_set lists session (slice_index_or lists session [] ++ call ∷ [])
    else lists
