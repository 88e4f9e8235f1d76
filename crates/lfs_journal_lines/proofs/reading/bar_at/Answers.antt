use Rattle.std.proofs.Common.{◌∙◌, rules, tests}
use Rattle.std.proofs.lemmas.Iterator.{YieldsList-from_slice}
use Rattle.std.proofs.lemmas.Iterator.Search.{position_from_yields_List}
use Rattle.lfs_journal_lines.proofs.ReadingLemmas.{position-map}
use Rattle.lfs_journal_lines.specs.Reading.{is_bar}
use Rattle.lfs_journal_lines.proofs.reading.bar_at.Goals as goal

pub returns-clause-place : goal.returns-clause-place
returns-clause-place c =
    position_from_yields_List (λ word. is_bar word.now) _ _ c.position.result c.position.ensures.ran
    (YieldsList-from_slice c.args.words.now cc)
    (λ x b q k. search (rules, tests))
    ∙ position-map is_bar (λ word. word.now) c.args.words.now
