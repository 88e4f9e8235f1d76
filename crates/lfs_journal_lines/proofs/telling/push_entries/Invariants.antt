use Rattle.std.proofs.Common.{◌≡◌, ◌++◌, take}
use Rattle.lfs_journal_lines.specs.EntryText.{entries_text}
use Rattle.lfs_journal_lines.proofs.telling.push_entries.Given as goal

abbrev pub invariant-loop-entry : goal.invariant-loop-entry
invariant-loop-entry l = l.out.items ≡ l.fn.out.items ++ entries_text (take l.entry-index l.entries)
