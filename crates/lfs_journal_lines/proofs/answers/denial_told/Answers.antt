use Rattle.std.proofs.Common.{sym, ◌∙◌}
use Rattle.lfs_journal_lines.proofs.ReadingLemmas.{four_few, four_many, four_there}
use Rattle.lfs_journal_lines.proofs.answers.denial_told.Goals as goal

pub returns-in-len4 : goal.returns-in-len4
returns-in-len4 c = c.denial_of.ensures ∙ sym
    (four_there (λ x. x.now) c.args.words.now _ c.in-len4.len_at_least c.in-len4.len_below)

pub returns-in_default : goal.returns-in_default
returns-in_default c = sym (four_few (λ x. x.now) c.args.words.now c.in_default.len_below)

pub returns-in_default-2 : goal.returns-in_default-2
returns-in_default-2 c = sym (four_many (λ x. x.now) c.args.words.now c.in_default.len_at_least)
