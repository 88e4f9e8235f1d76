use Rattle.std.proofs.Common.{ap, ◌∙◌}
use Rattle.lfs_model.specs.Counts.{counts_of}
use Rattle.lfs_audit.proofs.RunLemmas.{report_written}
use Rattle.lfs_sinks.proofs.RefusalLemmas.{tally_is}
use Rattle.lfs_audit.proofs.filing.FiledVolume.report.Goals as goal

pub returns-clause-written : goal.returns-clause-written
returns-clause-written g c = λ handed answers told refused.
    let first = c.self.view_is in
    let journal = c.args.self.now.volume.journal in
    let counted = tally_is _ handed answers (ap (λ h. h.told) first ∙ told) (ap (λ h. h.refusals) first ∙ refused) in
    report_written _ _ _ _ c.args.text.now.items c.push_report.new.out.items c.as_slice.result.now
    (c.in_ok-push_report.ensures handed journal answers counted
    (c.counts.ensures.counted ∙ ap (λ h. counts_of h.volume.journal) first)) c.as_slice.ensures.value
    c.in_ok-write_text.ensures c.in_ok-flush.ensures
