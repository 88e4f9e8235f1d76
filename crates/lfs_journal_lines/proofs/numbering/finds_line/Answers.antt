use Rattle.std.proofs.Common.{arith}
use Rattle.lfs_journal_lines.specs.EntryText.{entry_text}
use Rattle.lfs_journal_lines.proofs.NumberLemmas.{entry_stays, line_found}
use Rattle.lfs_journal_lines.proofs.numbering.finds_line.Goals as goal

pub returns-clause-numbered : goal.returns-clause-numbered
returns-clause-numbered c number = line_found number (entry_text c.args.entry.now)

pub returns-clause-plain : goal.returns-clause-plain
returns-clause-plain c number = entry_stays number c.args.entry.now (omega arith)
