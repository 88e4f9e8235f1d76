use Rattle.lfs_audit.proofs.RunLemmas.{report_joined, report_written}
use Rattle.lfs_audit.proofs.run.print_report.Goals as goal

pub returns-clause-written : goal.returns-clause-written
returns-clause-written g c = (
  λ from begins. (c.counts.ensures.legal from begins).legal,
  report_written _ _ _ _ c.args.text.now.items c.push_refusals.new.out.items c.as_slice.result.now
      (report_joined c.args.text.now.items c.append_counts.new.out.items c.push_refusals.new.out.items _ _
      (c.in_ok-append_counts.ensures.same c.args.volume.now.journal c.counts.ensures.counted)
      c.in_ok-push_refusals.ensures) c.as_slice.ensures.value
      c.in_ok-write_text.ensures c.in_ok-flush.ensures,
)
