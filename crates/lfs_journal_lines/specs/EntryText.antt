-- Entries as lines.
use Rattle.std.specs.Prelude.{ℕ, List, [], ◌∷◌, ◌++◌, codes, decimal}
use Rattle.std.specs.List.{flat_map}
use Rattle.lfs_model.specs.declared.journal.Entry.{Entry}
use Rattle.lfs_model.specs.declared.journal.Event.{Event}
use Rattle.lfs_model.specs.declared.journal.Event.TheVariants.{User, Cleaner}
use Rattle.lfs_print.specs.AnswerText.{answer_words}
use Rattle.lfs_print.specs.CleanerText.{outcome_words}
use Rattle.lfs_script.specs.CleanerSpelling.{act_line}
use Rattle.lfs_script.specs.Spelling.{request_line}
use Rattle.lfs_words.specs.CallerText.{caller_words}
use Rattle.lfs_words.specs.Wording.{spaced}

-- what was asked: a call of a user or of the cleaner as a line of a script
abbrev pub asked_text : Event → List ℕ
asked_text (User request answer) = request_line request
asked_text (Cleaner act outcome) = act_line act

-- what was answered
abbrev pub came_words : Event → List (List ℕ)
came_words (User request answer) = answer_words answer
came_words (Cleaner act outcome) = outcome_words outcome

-- who called: the session, and the credential as a script has it
abbrev pub who_text : Entry → List ℕ
who_text entry = decimal entry.session ++ spaced (codes "as" ∷ caller_words entry.cred)

-- an entry as a text: who called, what was asked and what was answered, with ` | ` between
unfoldable pub entry_text : Entry → List ℕ
entry_text entry =
    who_text entry ++ 32 ∷ codes "|" ++ 32 ∷ asked_text entry.event ++ 32 ∷ codes "|" ++ spaced (came_words entry.event)

-- the line of an entry: its text and a line feed
unfoldable pub entry_line : Entry → List ℕ
entry_line entry = entry_text entry ++ 10 ∷ []

abbrev pub entries_text : List Entry → List ℕ
entries_text entries = flat_map entry_line entries
