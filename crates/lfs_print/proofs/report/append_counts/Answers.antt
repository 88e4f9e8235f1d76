use Rattle.std.proofs.Common.{List, ◌≡◌, ◌++◌, ap, ◌∙◌}
use Rattle.std.proofs.lemmas.Result.{on_ok_weaker}
use Rattle.lfs_model.specs.Counts.{counts_of}
use Rattle.lfs_model.specs.declared.journal.Entry.{Entry}
use Rattle.lfs_print.specs.ReportText.{counts_text}
use Rattle.lfs_print.proofs.ReportLemmas.{report_same}
use Rattle.lfs_print.proofs.report.append_counts.Goals as goal

pub returns-clause-same : goal.returns-clause-same
returns-clause-same c =
    on_ok_weaker c.push_counts.result
    (λ text (entries : List Entry) (counted : c.args.counts.now ≡ counts_of entries).
    text ∙ ap (λ xs. c.args.out.now.items ++ xs) (ap counts_text counted ∙ report_same entries))
    c.push_counts.ensures
