use Rattle.lfs_model.specs.declared.steps.StepAnswer.TheVariants.{User}
use Rattle.lfs_volume.specs.Cleanings.{cleaner_of}
use Rattle.lfs_volume.proofs.CallLemmas.{call_made}
use Rattle.lfs_audit.specs.Runs.{call_step}
use Rattle.lfs_audit.proofs.RunLemmas.{call_tells, on_ok, runs_one}
use Rattle.lfs_audit.proofs.passing.call.Goals as goal

pub returns : goal.returns
returns g c =
    let s = g.F.CleanedStore in
    let r = cleaner_of g.F.FileStore.state g.F.FileStore.is_flushed g.F.FileStore.made s.cleaner in
    let old = c.args.volume.now in
    let new = c.call-answer.new.self in
    let e = c.call-answer.ensures in
    let asker = c.args.asker in
    let step = call_step asker.session asker.cred c.args.request in
    let ran = runs_one r old new step (User c.call-answer.result) e.shown
    (λ from begins. record {
      made = call_made r.state r.is_flushed from old new asker.cred c.args.request c.call-answer.result
          e.full e.at_limit (e.shown from begins)
          (λ room. e.outcome room from begins) (e.entries from begins) e.unserved e.looks e.unasked e.synced e.follows e.base;
      asked = e.asked;
    })
    e.entered e.limit e.follows.shape e.since e.since_level in
    on_ok c.append_answer.result c.append_answer.ensures
    (λ printed. call_tells r old new c.args.refusals.now c.add_answer.new.self asker.session asker.cred c.args.request
    c.call-answer.result _ _ ran c.add_answer.ensures printed)
