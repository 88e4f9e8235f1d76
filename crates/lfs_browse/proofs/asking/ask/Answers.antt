use Rattle.lfs_model.specs.declared.steps.StepAnswer.TheVariants.{User}
use Rattle.lfs_volume.specs.Cleanings.{cleaner_of}
use Rattle.lfs_volume.proofs.CallLemmas.{call_made}
use Rattle.lfs_audit.specs.Runs.{call_step}
use Rattle.lfs_audit.proofs.RunLemmas.{runs_one}
use Rattle.lfs_browse.proofs.asking.ask.Goals as goal

pub returns : goal.returns
returns g c =
    let r = cleaner_of g.F.FileStore.state g.F.FileStore.is_flushed g.F.FileStore.made g.F.CleanedStore.cleaner in
    let old = c.args.volume.now in
    let new = c.call.new.self in
    let e = c.call.ensures in
    let asker = c.args.asker.now in
    let request = c.args.request in
    let answer = c.call.result in
    record {
      ran = runs_one r old new (call_step asker.session asker.cred request) (User answer) e.shown
          (λ from begins. record {
            made = call_made r.state r.is_flushed from old new asker.cred request answer e.full e.at_limit
                (e.shown from begins) (λ room. e.outcome room from begins) (e.entries from begins) e.unserved e.looks
                e.unasked e.synced e.follows e.base;
            asked = e.asked;
          })
          e.entered e.limit e.follows.shape e.since e.since_level;
    }
