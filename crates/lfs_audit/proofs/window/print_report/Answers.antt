use Rattle.lfs_audit.proofs.RunLemmas.{report_written}
use Rattle.lfs_audit.proofs.window.print_report.Goals as goal

pub returns-clause-written : goal.returns-clause-written
returns-clause-written g c = λ dropped answers told.
    report_written _ _ _ _ c.args.text.now.items c.push_report.new.out.items c.as_slice.result.now
    (c.in_ok-push_report.ensures dropped c.args.volume.now.journal answers told c.counts.ensures.counted)
    c.as_slice.ensures.value c.in_ok-write_text.ensures c.in_ok-flush.ensures
