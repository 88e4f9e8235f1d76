use Rattle.std.proofs.Common.{sym, ◌∙◌}
use Rattle.lfs_journal_lines.proofs.ReadingLemmas.{seven_there}
use Rattle.lfs_journal_lines.proofs.answers.stat_told.Goals as goal

pub returns-in-len7 : goal.returns-in-len7
returns-in-len7 c = c.stat_of.ensures ∙ sym
    (seven_there (λ x. x.now) c.args.words.now _ c.in-len7.len_at_least c.in-len7.len_below)
