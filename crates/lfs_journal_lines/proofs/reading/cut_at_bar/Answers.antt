use Rattle.std.proofs.Common.{sym}
use Rattle.lfs_journal_lines.proofs.ReadingLemmas.{cut_missed, cut_there}
use Rattle.lfs_journal_lines.proofs.reading.cut_at_bar.Goals as goal

pub returns-in-Some : goal.returns-in-Some
returns-in-Some c = cut_there c.args.words.now c.in-Some.at c.in-Some.ensures.within (sym c.in-Some.ensures.place)

pub returns-in-None : goal.returns-in-None
returns-in-None c = cut_missed c.args.words.now (sym c.in-None.ensures.place)
