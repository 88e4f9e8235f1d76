use Rattle.std.proofs.Common.{rules, sym, subst}
use Rattle.lfs_model.specs.declared.steps.Act.{Act}
use Rattle.lfs_model.specs.declared.steps.StepAnswer.TheVariants.{User}
use Rattle.lfs_volume.specs.Cleanings.{cleaner_of}
use Rattle.lfs_volume.specs.StepRuns.{IsActMade}
use Rattle.lfs_volume.proofs.CallLemmas.{call_made}
use Rattle.lfs_volume.proofs.volume.Volume.make.Goals as goal

pub returns-in-User-clause-made : goal.returns-in-User-clause-made
returns-in-User-clause-made g c = λ from begins.
    let s = g.F.CleanedStore in
    let r = cleaner_of g.F.FileStore.state g.F.FileStore.is_flushed g.F.FileStore.made s.cleaner in
    let old = c.args.self.now in
    let new = c.call.new.self in
    let e = c.call.ensures in
    subst (λ (act : Act). IsActMade r old.limit from old.journal old.store c.args.step.cred act
    (User c.call.result) new.store) (sym c.in-User.is)
    (record {
      made = call_made r.state r.is_flushed from old new c.args.step.cred c.in-User.request c.call.result e.full e.at_limit
          (e.shown from begins) (λ room. e.outcome room from begins)
          (e.entries from begins) e.unserved e.looks e.unasked e.synced e.follows e.base;
      asked = e.asked;
    })

pub returns-in-User-clause-entered : goal.returns-in-User-clause-entered
returns-in-User-clause-entered g c = search rules

pub returns-in-User-clause-legal : goal.returns-in-User-clause-legal
returns-in-User-clause-legal g c = search rules

pub returns-in-User-clause-limit : goal.returns-in-User-clause-limit
returns-in-User-clause-limit g c = search rules

pub returns-in-User-clause-shape : goal.returns-in-User-clause-shape
returns-in-User-clause-shape g c = search rules

pub returns-in-Cleaner-clause-made : goal.returns-in-Cleaner-clause-made
returns-in-Cleaner-clause-made g c = search rules

pub returns-in-Cleaner-clause-entered : goal.returns-in-Cleaner-clause-entered
returns-in-Cleaner-clause-entered g c = search rules

pub returns-in-Cleaner-clause-legal : goal.returns-in-Cleaner-clause-legal
returns-in-Cleaner-clause-legal g c = search rules

pub returns-in-Cleaner-clause-limit : goal.returns-in-Cleaner-clause-limit
returns-in-Cleaner-clause-limit g c = search rules

pub returns-in-Cleaner-clause-shape : goal.returns-in-Cleaner-clause-shape
returns-in-Cleaner-clause-shape g c = search rules
