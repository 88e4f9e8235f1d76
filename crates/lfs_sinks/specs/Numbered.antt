-- The lines of a journal file.
use Rattle.std.specs.Prelude.{ℕ, ◌+◌, List, [], ◌∷◌, ◌++◌}
use Rattle.lfs_journal_lines.specs.EntryText.{entry_line}
use Rattle.lfs_journal_lines.specs.Numbering.{numbered}
use Rattle.lfs_model.specs.declared.journal.Entry.{Entry}

-- an entry as a line, with its number before it
unfoldable pub numbered_line : ℕ → Entry → List ℕ
numbered_line number entry = numbered number (entry_line entry)

-- entries as lines, numbered one behind another from this number on
abbrev pub numbered_text : ℕ → List Entry → List ℕ
numbered_text number [] = []
numbered_text number (entry ∷ entries) = numbered_line number entry ++ numbered_text (number + 1) entries
