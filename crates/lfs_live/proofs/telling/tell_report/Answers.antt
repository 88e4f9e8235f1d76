use Rattle.std.proofs.Common.{◌++◌, ap, ◌∙◌}
use Rattle.lfs_sinks.specs.Refusals.{run_report}
use Rattle.lfs_live.proofs.telling.tell_report.Goals as goal

pub returns : goal.returns
returns c = λ handed kept answers is counted.
    c.in_ok-push_report.ensures handed kept answers is counted
    ∙ ap (λ l. l ++ run_report (handed ++ kept) answers) c.new-text.ensures.items
