use Rattle.std.proofs.Common.{subst}
use Rattle.lfs_script.specs.declared.plan.Act.TheVariants.{Cleaner}
use Rattle.lfs_types.specs.declared.cleaner.CleanerCall.{CleanerCall}
use Rattle.lfs_volume.specs.Cleanings.{cleaner_of}
use Rattle.lfs_audit.specs.Runs.{CountsLine}
use Rattle.lfs_audit.proofs.RunLemmas.{cleaning_tells}
use Rattle.lfs_audit.proofs.passing.clean_line.Goals as goal

pub returns : goal.returns
returns g c =
    let s = g.F.CleanedStore in
    let r = cleaner_of g.F.FileStore.state g.F.FileStore.is_flushed g.F.FileStore.made s.cleaner in
    let asker = c.args.asker in
    subst (λ (call : CleanerCall). CountsLine r c.args.volume.now c.clean.new.volume c.args.refusals.now
    c.clean.new.refusals asker.session asker.cred (Cleaner call) c.args.text.now.items c.clean.new.text.items)
    c.into_call.ensures
    (cleaning_tells r c.args.volume.now c.clean.new.volume c.args.refusals.now c.clean.new.refusals asker.session
    asker.cred c.into_call.result c.in_ok-clean.field-0 c.args.text.now.items c.clean.new.text.items
    c.in_ok-clean.ensures)
