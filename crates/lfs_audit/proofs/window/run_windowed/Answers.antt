use Rattle.lfs_volume.specs.Cleanings.{cleaner_of}
use Rattle.lfs_sinks.proofs.RefusalLemmas.{tally_is}
use Rattle.lfs_audit.proofs.RunLemmas.{on_ok}
use Rattle.lfs_audit.proofs.WindowLemmas.{windowed_run}
use Rattle.lfs_audit.proofs.window.run_windowed.Goals as goal

pub returns-clause-written : goal.returns-clause-written
returns-clause-written g c =
    let r = cleaner_of g.F.FileStore.state g.F.FileStore.is_flushed g.F.FileStore.made g.F.CleanedStore.cleaner in
    let window = c.print_steps.new.window in
    on_ok c.print_report.result c.print_report.ensures.written
    (λ reported. windowed_run r c.args.limit c.args.volume.now c.print_steps.new.volume window.tally.totals
    window.tally.refusals window.left c.args.steps _ c.print_steps.new.text.items _ _ _ c.new-text.ensures.items
    c.in_ok-print_steps.ensures.written c.print_report.ensures.legal
    (λ dropped answers told refused. reported dropped answers (tally_is window.tally dropped answers told refused)))
