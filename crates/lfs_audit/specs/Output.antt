-- What a run of a script prints.
use Rattle.std.specs.Prelude.{◌≡◌, ℕ, List, [], ◌++◌, Ok}
use Rattle.lfs_types.specs.Tree.{World}
use Rattle.lfs_model.specs.declared.steps.Step.{Step as Made}
use Rattle.lfs_model.specs.declared.steps.StepAnswer.{StepAnswer}
use Rattle.lfs_model.specs.Runs.{kept_steps}
use Rattle.lfs_model.specs.Steps.{IsLegal}
use Rattle.lfs_script.specs.PlanTypes.{Planned}
use Rattle.lfs_script.specs.Plans.{plan_of}
use Rattle.lfs_sinks.specs.Refusals.{run_report}
use Rattle.lfs_script.specs.declared.plan.Step.{Step}
use Rattle.lfs_volume.specs.Cleanings.{Cleaner}
use Rattle.lfs_volume.specs.StepRuns.{AreSteps}
use Rattle.lfs_audit.specs.Runs.{AreAsked, lines_text}

-- A text is that of a run of a plan on a volume over this store, whose journal began in such a world, has no entries
-- and may have so many: the line of each answer to what the plan's lines ask for, a pass's calls among it, and the
-- report of the entries that are kept and of the answers of which there is no entry. The entries are legal from there; an
-- answer is JournalFull exactly where there are as many entries as there may be by then, and each other has its cause
-- there.
pub record IsRun {F : Type 0} (r : Cleaner F) (begins : World → Type 0) (limit : ℕ) (store : F) (steps : List Step)
    (text : List ℕ) : Type 0 where
  pub made : List Made
  pub answers : List StepAnswer
  pub after : F
  pub asked : AreAsked steps made answers
  pub answered : (from : World) → begins from → AreSteps r limit from [] store made answers after
  pub legal : (from : World) → begins from
      → IsLegal (r.state store).shape.numbers (r.state store).shape.segments (kept_steps made answers) from
  pub printed : text ≡ lines_text made answers ++ run_report (kept_steps made answers) answers

-- a text is that of a run of the plan of a script, over such a store
pub record IsOutput {F : Type 0} (r : Cleaner F) (begins : World → Type 0) (script : List ℕ) (limit : ℕ) (store : F)
    (text : List ℕ) : Type 0 where
  pub plan : Planned
  pub parsed : plan_of script ≡ Ok plan
  pub run : IsRun r begins limit store plan.steps text
