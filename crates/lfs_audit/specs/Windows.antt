-- A volume whose entries nobody asks for: they are dropped by and by, and it is answered as if its journal kept them.
use Rattle.std.specs.Prelude.{◌≡◌, ℕ, ◌+◌, ◌<◌, ◌≤◌, ◌⊎◌, List, [], ◌++◌, length, Option}
use Rattle.std.specs.Io.KnownBytes.{Appends}
use Rattle.lfs_types.specs.StoreStates.{StoreState}
use Rattle.lfs_model.specs.Counts.{counts_of}
use Rattle.lfs_model.specs.Runs.{kept_steps}
use Rattle.lfs_model.specs.Steps.{IsLegal, world_after}
use Rattle.lfs_model.specs.declared.counts.Counts.{Counts}
use Rattle.lfs_model.specs.declared.journal.Entry.{Entry}
use Rattle.lfs_model.specs.declared.steps.Step.{Step as Made}
use Rattle.lfs_model.specs.declared.steps.StepAnswer.{StepAnswer}
use Rattle.lfs_script.specs.declared.plan.Step.{Step}
use Rattle.lfs_sinks.specs.Refusals.{refusals_of}
use Rattle.lfs_sinks.specs.Sums.{counts_sum}
use Rattle.lfs_sinks.specs.declared.refusals.Refusals.{Refusals}
use Rattle.lfs_volume.specs.Cleanings.{Cleaner}
use Rattle.lfs_volume.specs.Journals.{Begins, Since}
use Rattle.lfs_volume.specs.Seen.{Seen}
use Rattle.lfs_volume.specs.StepRuns.{AreSteps}
use Rattle.lfs_audit.specs.Filing.{LeadsOn}
use Rattle.lfs_audit.specs.Runs.{AreAsked, lines_text}

-- A journal of so many entries, which may have `limit`, of a volume that may enter `left` more than it dropped: it gets
-- full exactly where no more may be entered; or it has room for what a line may ask for, of the many that may be entered.
abbrev pub HasLineRoom : ℕ → ℕ → ℕ → Type 0
HasLineRoom entries limit left = (limit ≡ left) ⊎ ((entries + 105 ≤ limit) × (limit < left))

-- the entries of a volume were counted and dropped: its journal goes on without them from the present tree
pub record IsDropped {F : Type 0} (state : F → StoreState) (old new : Seen F) (told then : Counts)
    (left rest : ℕ) : Type 0 where
  pub store : new.store ≡ old.store
  pub empty : new.journal ≡ []
  pub leads : LeadsOn state old new
  pub counted : then ≡ counts_sum told (counts_of old.journal)
  pub parted : left ≡ length old.journal + rest

-- the entries of a volume were dropped, or all is as before
abbrev pub DropsEntries : {F : Type 0} → (F → StoreState) → Seen F → Seen F → Counts → Counts → ℕ → ℕ → Type 0
DropsEntries state old new told then left rest =
    IsDropped state old new told then left rest ⊎ ((new ≡ old) × (then ≡ told) × (rest ≡ left))

-- Lines were done on a volume, which led from one to another, and were answered as with a journal that keeps its entries
-- and may have so many. Some of its entries were dropped and counted; `left` more than those may be entered.
pub record IsWindowed {F : Type 0} (r : Cleaner F) (limit : ℕ) (old now : Seen F) (told : Counts)
    (refusals : Refusals) (left : ℕ) (steps : List Step) (start known : Option (List ℕ)) : Type 0 where
  pub made : List Made
  pub answers : List StepAnswer
  pub dropped : List Entry
  pub count : length answers ≡ length made
  pub asked : AreAsked steps made answers
  pub entered : kept_steps made answers ≡ dropped ++ now.journal
  pub answered : Since (r.state old.since) old.since_level
      (λ from. AreSteps r limit from [] old.store made answers now.store)
  pub leads : Since (r.state old.since) old.since_level (λ from.
      let shape = (r.state old.store).shape in
      IsLegal shape.numbers shape.segments dropped from
      × Begins (r.state now.since) now.since_level (world_after shape.numbers dropped from))
  pub shape : (r.state now.store).shape ≡ (r.state old.store).shape
  pub counted : told ≡ counts_of dropped
  pub refused : refusals ≡ refusals_of answers
  pub left_of : limit ≡ length dropped + left
  pub printed : Appends start known (lines_text made answers)
