-- How the steps of a plan lie in memory: acts in chunks, each with the number of its asker in a table.
use Rattle.std.specs.Prelude.{◌≡◌, ◌<◌, ◌≤◌, ◌∷◌, ℕ, false, List, [], length, map, slice_index_or}
use Rattle.std.specs.List.{All, flat_map}
use Rattle.std.specs.Global.{Vec}
use Rattle.lfs_script.specs.PlanTypes.{AreWithin, Drafted}
use Rattle.lfs_script.specs.declared.askers.Asker.{Asker}
use Rattle.lfs_script.specs.declared.plan.AskedAct.{AskedAct}
use Rattle.lfs_script.specs.declared.plan.Step.{Step}

-- the items of all chunks
abbrev pub items_in : {X : Type 0} → List (Vec X) → List X
items_in chunks = flat_map (λ chunk. chunk.items) chunks

-- each chunk has an item
abbrev pub AreFilled : {X : Type 0} → List (Vec X) → Type 0
AreFilled chunks = All (λ chunk. 0 < length chunk.items) chunks

-- no chunk is left where nothing is left of the first
abbrev pub IsAhead : {X : Type 0} → List X → List (Vec X) → Type 0
IsAhead first chunks = first ≡ [] → chunks ≡ []

-- the asker of this number, and behind the last the one of the first line
abbrev pub asker_at : List Asker → ℕ → Asker
asker_at askers number =
    slice_index_or askers number (record { cred = record { uid = 0; groups = 0 ∷ []; init = false }; session = 0 })

abbrev pub step_by : Asker → AskedAct → Step
step_by asker asked = record { session = asker.session; cred = asker.cred; act = asked.act }

abbrev pub step_of : List Asker → AskedAct → Step
step_of askers asked = step_by (asker_at askers asked.asker) asked

abbrev pub steps_of : List Asker → List AskedAct → List Step
steps_of askers acts = map (step_of askers) acts

-- each act has its asker in the table
abbrev pub AreAsked : List Asker → List AskedAct → Type 0
AreAsked askers acts = All (λ asked. asked.asker < length askers) acts

-- who asked so far, and who asks from now on
pub record Known : Type 0 where
  pub table : List Asker
  pub present : Asker

-- the plan that a draft is so far
abbrev pub drafted : Known → List AskedAct → ℕ → Drafted
drafted askers acts sessions = record {
  session = askers.present.session;
  cred = askers.present.cred;
  sessions = sessions;
  steps = steps_of askers.table acts;
}

-- each act has its asker, and no session is above the highest
abbrev pub IsDraft : Known → List AskedAct → ℕ → Type 0
IsDraft askers acts sessions =
    AreAsked askers.table acts × AreWithin (steps_of askers.table acts) sessions × (askers.present.session ≤ sessions)
