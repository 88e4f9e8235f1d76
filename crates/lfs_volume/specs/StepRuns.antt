-- Steps of users and of the cleaner, made one after another on a volume.
use Rattle.std.specs.Prelude.{◌≡◌, ◌↔◌, ℕ, ◌<◌, List, [], ◌∷◌, ◌++◌, length}
use Rattle.lfs_types.specs.Caller.{Caller}
use Rattle.lfs_types.specs.StoreStates.{Shape}
use Rattle.lfs_types.specs.Tree.{World}
use Rattle.lfs_types.specs.declared.answer.Resource.TheVariants.{JournalFull}
use Rattle.lfs_model.specs.declared.journal.CleanerAnswer.TheVariants as cleaner
use Rattle.lfs_model.specs.declared.journal.Entry.{Entry}
use Rattle.lfs_model.specs.declared.steps.Act.{Act}
use Rattle.lfs_model.specs.declared.steps.Act.TheVariants as acts
use Rattle.lfs_model.specs.declared.steps.Step.{Step}
use Rattle.lfs_model.specs.declared.steps.StepAnswer.{StepAnswer}
use Rattle.lfs_model.specs.declared.steps.StepAnswer.TheVariants.{User, Cleaner as Cleaned}
use Rattle.lfs_model.specs.Runs.{kept_step, users_alone}
use Rattle.lfs_model.specs.Steps.{IsLegal, world_after}
use Rattle.lfs_calls.specs.Volumes.{IsVolume}
use Rattle.lfs_volume.specs.CallRuns.{IsCallAsked}
use Rattle.lfs_volume.specs.Cleanings.{Cleaner, CleansOnly, IsCleanerAnswer}

-- A call was answered so behind a journal, and led from one store to another: a user's as it is made alone, one that
-- changes files as the store said; a cleaner's JournalFull exactly where the journal has its limit, and then the store is
-- as before, else as the store's call answers. Where no growth is refused past a share, no segment becomes clean but by
-- the cleaner's call that tells so.
abbrev pub IsActMade : {F : Type 0} → Cleaner F → ℕ → World → List Entry → F → Caller → Act → StepAnswer → F → Type 0
IsActMade r limit from journal old caller (acts.User request) (User answer) new =
    IsCallAsked r.state r.is_flushed r.said limit from journal old caller request answer new
IsActMade r limit from journal old caller (acts.Cleaner call) (Cleaned answer) new =
    ((answer ≡ cleaner.Refused JournalFull) ↔ (length journal ≡ limit))
    × (length journal ≡ limit → new ≡ old)
    × (length journal < limit → IsCleanerAnswer r old caller call answer new)
    × CleansOnly answer (r.state old) (r.state new)
IsActMade r limit from journal old caller act answer new = ⊥

-- Steps were answered so behind a journal, one after another, and led from one store to another: at each of them the
-- store shows the world that the journal leads to by then.
abbrev pub AreSteps : {F : Type 0} → Cleaner F → ℕ → World → List Entry → F → List Step → List StepAnswer → F → Type 0
AreSteps r limit from journal old [] [] new = new ≡ old
AreSteps r limit from journal old [] (answer ∷ answers) new = ⊥
AreSteps r limit from journal old (step ∷ steps) [] new = ⊥
AreSteps {F} r limit from journal old (step ∷ steps) (answer ∷ answers) new =
    (next : F)
    × IsVolume (r.state old) (world_after (r.state old).shape.numbers journal from)
    × IsActMade r limit from journal old step.cred step.act answer next
    × AreSteps r limit from (journal ++ kept_step step answer) next steps answers new

-- Entries are legal from one world to another, and so are the users' entries among them alone: without the cleaner's
-- entries, the Syncs and those refused for a resource each user's answer would be the same, and so would the world.
pub record AreLegalAlone (shape : Shape) (entries : List Entry) (from to : World) : Type 0 where
  pub legal : IsLegal shape.numbers shape.segments entries from
  pub leads : world_after shape.numbers entries from ≡ to
  pub legal_alone : IsLegal shape.numbers shape.segments (users_alone entries) from
  pub leads_alone : world_after shape.numbers (users_alone entries) from ≡ to
