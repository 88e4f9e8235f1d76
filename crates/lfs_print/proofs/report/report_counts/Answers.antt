use Rattle.std.proofs.Common.{◌++◌, ap, ◌∙◌}
use Rattle.lfs_print.specs.ReportText.{report_text}
use Rattle.lfs_print.proofs.report.report_counts.Goals as goal

pub returns-clause-same : goal.returns-clause-same
returns-clause-same c = λ entries counted.
    c.in_ok-append_counts.ensures.same entries counted ∙ ap (λ xs. xs ++ report_text entries) c.new-text.ensures.items
