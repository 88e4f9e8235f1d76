use Rattle.lfs_volume.specs.Cleanings.{cleaner_of}
use Rattle.lfs_audit.proofs.RunLemmas.{on_ok, whole_run}
use Rattle.lfs_audit.proofs.run.run_plan.Goals as goal

pub returns-clause-written : goal.returns-clause-written
returns-clause-written g c =
    let s = g.F.CleanedStore in
    let r = cleaner_of g.F.FileStore.state g.F.FileStore.is_flushed g.F.FileStore.made s.cleaner in
    on_ok c.print_report.result c.print_report.ensures.written
    (whole_run r c.args.volume.now c.print_steps.new.volume _ c.print_steps.new.refusals c.args.steps _
    c.print_steps.new.text.items _ _ _ c.requires c.none-refusals.ensures c.in_ok-print_steps.ensures.written c.new-text.ensures.items)
