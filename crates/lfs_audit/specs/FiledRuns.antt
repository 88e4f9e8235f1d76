-- What a run of a script prints whose entries go to a file, and which they are.
use Rattle.std.specs.Prelude.{◌≡◌, ℕ, ◌<◌, Bool, true, List, [], ◌++◌, length}
use Rattle.lfs_types.specs.Tree.{World, opening_world}
use Rattle.lfs_model.specs.declared.journal.Entry.{Entry}
use Rattle.lfs_model.specs.declared.steps.Step.{Step as Made}
use Rattle.lfs_model.specs.declared.steps.StepAnswer.{StepAnswer}
use Rattle.lfs_model.specs.Runs.{kept_steps}
use Rattle.lfs_model.specs.Steps.{IsLegal}
use Rattle.lfs_script.specs.PlanTypes.{Planned}
use Rattle.lfs_script.specs.declared.plan.Step.{Step}
use Rattle.lfs_parts.specs.declared.parts.Parts.{Parts}
use Rattle.lfs_server.specs.Fresh.{IsFreshLog}
use Rattle.lfs_sinks.specs.Refusals.{run_report}
use Rattle.lfs_volume.specs.Cleanings.{Cleaner}
use Rattle.lfs_volume.specs.StepRuns.{AreSteps}
use Rattle.lfs_audit.specs.Faults.{IsRead}
use Rattle.lfs_audit.specs.Runs.{AreAsked, lines_text}
use Rattle.lfs_audit.specs.Scripts.{IsLogOutput, log_cleaner}
use Rattle.lfs_audit.specs.Threads.{IsThreadsOutput}

-- A text is that of a run of a plan on a volume over this store, whose journal began in such a world, and which entered
-- these entries while a file took them. The first lines are answered as with any journal that has room for all of these
-- entries. The rest, of which there is none where the file took all, is answered as with one that they fill: each call
-- is refused JournalFull. The report is over all of the entries, and of all answers.
pub record IsFiledRun {F : Type 0} (r : Cleaner F) (begins : World → Type 0) (store : F) (steps : List Step)
    (is_whole : Bool) (entries : List Entry) (text : List ℕ) : Type 0 where
  pub first : List Step
  pub rest : List Step
  pub parted : steps ≡ first ++ rest
  pub whole : is_whole ≡ true → rest ≡ []
  pub made : List Made
  pub answers : List StepAnswer
  pub refused : List Made
  pub refusals : List StepAnswer
  pub middle : F
  pub after : F
  pub asked : AreAsked first made answers
  pub asked_then : AreAsked rest refused refusals
  pub answered : (limit : ℕ) → length entries < limit → (from : World) → begins from
      → AreSteps r limit from [] store made answers middle
  pub full : (from : World) → begins from → AreSteps r (length entries) from entries middle refused refusals after
  pub entered : entries ≡ kept_steps made answers
  pub legal : (from : World) → begins from
      → IsLegal (r.state store).shape.numbers (r.state store).shape.segments entries from
  pub printed : text ≡ (lines_text made answers ++ lines_text refused refusals)
      ++ run_report entries (answers ++ refusals)

-- A text is that of a run of a script on a fresh volume over a log of so many segments, inode numbers and frames, whose
-- entries these are. Where the file took all it is the text of a run without a file too, with any journal that has room.
pub record IsFiledOutput (script : List ℕ) (segments inodes frames : ℕ) (is_whole : Bool) (entries : List Entry)
    (text : List ℕ) : Type 0 where
  pub store : Parts
  pub fresh : IsFreshLog segments inodes frames store
  pub plan : Planned
  pub read : IsRead script plan
  pub run : IsFiledRun log_cleaner (λ from. from ≡ opening_world) store plan.steps is_whole entries text
  pub unfiled : is_whole ≡ true → (limit : ℕ) → length entries < limit
      → IsLogOutput script segments inodes frames limit text

-- a text is that of a run of a script on threads, whose journal has these entries
pub record IsFiledThreads (script : List ℕ) (segments inodes limit : ℕ) (entries : List Entry)
    (text : List ℕ) : Type 0 where
  pub output : IsThreadsOutput script segments inodes limit text
  pub entered : entries ≡ output.run.journal
