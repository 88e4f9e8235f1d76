use Rattle.std.proofs.Common.{[], ◌∷◌, refl, subst}
use Rattle.lfs_types.specs.Caller.{Caller}
use Rattle.lfs_types.specs.declared.request.Request.TheVariants.{Sync}
use Rattle.lfs_model.specs.declared.steps.StepAnswer.TheVariants.{User}
use Rattle.lfs_volume.specs.Cleanings.{cleaner_of}
use Rattle.lfs_volume.proofs.CallLemmas.{call_made}
use Rattle.lfs_audit.specs.Runs.{Runs, call_step}
use Rattle.lfs_audit.proofs.RunLemmas.{runs_one}
use Rattle.lfs_live.proofs.UpkeepLemmas.{sync_flushes}
use Rattle.lfs_live.proofs.upkeep.sync.Goals as goal

pub returns : goal.returns
returns g c =
    let r = cleaner_of g.F.FileStore.state g.F.FileStore.is_flushed g.F.FileStore.made g.F.CleanedStore.cleaner in
    let old = c.args.volume.now in
    let new = c.call-answer.new.self in
    let e = c.call-answer.ensures in
    let cred = c.first_caller.result in
    let answer = c.call-answer.result in (
      answer,
      record {
        ran = subst (λ (who : Caller). Runs r old new (call_step 0 who Sync ∷ []) (User answer ∷ []))
            c.first_caller.ensures
            (runs_one r old new (call_step 0 cred Sync) (User answer) e.shown
            (λ from begins. record {
              made = call_made r.state r.is_flushed from old new cred Sync answer e.full e.at_limit
                  (e.shown from begins) (λ room. e.outcome room from begins) (e.entries from begins) e.unserved
                  e.looks e.unasked e.synced e.follows e.base;
              asked = e.asked;
            })
            e.entered e.limit e.follows.shape e.since e.since_level);
      },
      sync_flushes answer c.outcome_of-outcome.result _ (e.synced refl) c.outcome_of-outcome.ensures,
    )
