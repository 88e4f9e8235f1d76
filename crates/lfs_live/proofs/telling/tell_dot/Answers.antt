use Rattle.std.proofs.Common.{Some, ap, sym, ◌∙◌}
use Rattle.lfs_live.specs.JournalText.{journal_text}
use Rattle.lfs_live.proofs.telling.tell_dot.Goals as goal

pub returns-in_ok-tell_journal-in-Journal : goal.returns-in_ok-tell_journal-in-Journal
returns-in_ok-tell_journal-in-Journal g c = λ handed answers counted.
    rw c.in-Journal.is (ap Some (sym (c.in_ok-tell_journal-in-Journal.ensures
    ∙ ap (journal_text c.in-Journal.count) c.journal.ensures.entries)))

pub returns-in_ok-tell_report-in-Report : goal.returns-in_ok-tell_report-in-Report
returns-in_ok-tell_report-in-Report g c = λ handed answers counted.
    rw c.in-Report.is (ap Some
    (sym (c.in_ok-tell_report-in-Report.ensures handed c.args.volume.now.journal answers counted
    c.counts.ensures.counted)))

pub returns-in_ok-tell_space-in-Space : goal.returns-in_ok-tell_space-in-Space
returns-in_ok-tell_space-in-Space g c = λ handed answers counted.
    rw c.in-Space.is (ap Some (sym (c.in_ok-tell_space-in-Space.ensures handed (ap (λ t. t.totals) counted))))
