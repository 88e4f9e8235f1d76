-- Calls of one caller, one behind the other: `asks_none`, `asks_joined` and `asks_count`, for the looks of this crate.
-- They are a run of steps that are all of one session and one caller, so two such runs are one (`runs_joined` of
-- lfs_audit), and there are as many answers as calls.
use Rattle.std.proofs.Common.{◌≡◌, List, [], ◌++◌, length, map, ap, subst, sym, ◌∙◌}
use Rattle.std.proofs.lemmas.List.{length-map, map-append}
use Rattle.lfs_types.specs.declared.answer.Answer.{Answer}
use Rattle.lfs_types.specs.declared.request.Request.{Request}
use Rattle.lfs_model.specs.declared.steps.Step.{Step as Made}
use Rattle.lfs_model.specs.declared.steps.StepAnswer.{StepAnswer}
use Rattle.lfs_model.specs.declared.steps.StepAnswer.TheVariants as told
use Rattle.lfs_volume.specs.Cleanings.{Cleaner}
use Rattle.lfs_volume.specs.Seen.{Seen}
use Rattle.lfs_audit.specs.Runs.{Runs, call_step}
use Rattle.lfs_audit.proofs.RunLemmas.{runs_joined, runs_none}
use Rattle.lfs_browse.specs.Asking.{Asks}
use Rattle.lfs_audit.specs.declared.asker.Asker.{Asker}

-- none
pub asks_none : {F : Type 0} (r : Cleaner F) (v : Seen F) (asker : Asker) → Asks r v v asker [] []
asks_none r v asker = record { ran = runs_none r v }

-- some, and then others
pub asks_joined : {F : Type 0} (r : Cleaner F) (old middle new : Seen F) (asker : Asker) (calls : List Request)
    (answers : List Answer) (more : List Request) (others : List Answer)
    → Asks r old middle asker calls answers → Asks r middle new asker more others
    → Asks r old new asker (calls ++ more) (answers ++ others)
asks_joined {F} r old middle new asker calls answers more others first then =
    let step = call_step asker.session asker.cred in
    record {
      ran = subst (λ (m : List Made). Runs r old new m (map told.User (answers ++ others)))
          (sym (map-append step calls more))
          (subst (λ (a : List StepAnswer). Runs r old new (map step calls ++ map step more) a)
          (sym (map-append told.User answers others))
          (runs_joined r old middle new (map step calls) (map told.User answers) (map step more)
          (map told.User others) first.ran then.ran));
    }

-- each has its answer
pub asks_count : {F : Type 0} (r : Cleaner F) (old new : Seen F) (asker : Asker) (calls : List Request)
    (answers : List Answer) → Asks r old new asker calls answers → length answers ≡ length calls
asks_count r old new asker calls answers asks =
    sym (length-map answers told.User) ∙ asks.ran.count ∙ length-map calls (call_step asker.session asker.cred)
