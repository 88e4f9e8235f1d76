-- What `.journal` tells.
use Rattle.std.specs.Prelude.{ℕ, ◌-◌, List, drop, length, Option, None, Some}
use Rattle.lfs_journal_lines.specs.EntryText.{entries_text}
use Rattle.lfs_model.specs.declared.journal.Entry.{Entry}

-- a journal, or its last entries
abbrev pub journal_text : Option ℕ → List Entry → List ℕ
journal_text None entries = entries_text entries
journal_text (Some count) entries = entries_text (drop (length entries - count) entries)
