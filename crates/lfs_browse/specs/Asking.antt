-- Calls of one caller, made one after another on a volume, and their answers.
use Rattle.std.specs.Prelude.{List, map}
use Rattle.lfs_types.specs.declared.answer.Answer.{Answer}
use Rattle.lfs_types.specs.declared.request.Request.{Request}
use Rattle.lfs_model.specs.declared.steps.StepAnswer.TheVariants as told
use Rattle.lfs_volume.specs.Cleanings.{Cleaner}
use Rattle.lfs_volume.specs.Seen.{Seen}
use Rattle.lfs_audit.specs.Runs.{Runs, call_step}
use Rattle.lfs_audit.specs.declared.asker.Asker.{Asker}

-- A volume became this one by these calls of a caller, in a session, each entered and answered so.
pub record Asks {F : Type 0} (r : Cleaner F) (old new : Seen F) (asker : Asker) (calls : List Request)
    (answers : List Answer) : Type 0 where
  pub ran : Runs r old new (map (call_step asker.session asker.cred) calls) (map told.User answers)
