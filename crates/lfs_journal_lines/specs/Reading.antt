-- The entry that a line tells.
use Rattle.std.specs.Prelude.{◌≡◌, ◌≢◌, ℕ, ◌+◌, Bool, List, [], ◌∷◌, codes, drop, position, take, Option, None, Some}
use Rattle.std.specs.Prelude.{Result, Ok, Err, if◌then◌else◌}
use Rattle.std.specs.List.{list_any}
use Rattle.std.specs.Str.{bytes_eq}
use Rattle.lfs_types.specs.Caller.{Caller}
use Rattle.lfs_model.specs.declared.journal.Entry.{Entry}
use Rattle.lfs_model.specs.declared.journal.Event.{Event}
use Rattle.lfs_model.specs.declared.journal.Event.TheVariants as event
use Rattle.lfs_words.specs.Callers.{caller_said}
use Rattle.lfs_words.specs.Faults.{◌>>=◌}
use Rattle.lfs_words.specs.Lines.{is_printable}
use Rattle.lfs_words.specs.Wording.{is_bare, words_of}
use Rattle.lfs_words.specs.declared.fault.FaultKind.{FaultKind}
use Rattle.lfs_words.specs.declared.fault.FaultKind.TheVariants.{Bytes, Words, Memory}
use Rattle.lfs_journal_lines.specs.Answers.{answer_told, octet_told}
use Rattle.lfs_journal_lines.specs.Asked.{asked_told}
use Rattle.lfs_journal_lines.specs.Outcomes.{outcome_told}
use Rattle.lfs_journal_lines.specs.declared.asked.Asked.{Asked}
use Rattle.lfs_journal_lines.specs.declared.asked.Asked.TheVariants.{User, Cleaner}
use Rattle.lfs_journal_lines.specs.declared.fault.Field.{Field}
use Rattle.lfs_journal_lines.specs.declared.fault.Field.TheVariants as field
use Rattle.lfs_journal_lines.specs.declared.fault.LineFault.{LineFault}

-- the words of a line, none of them empty
abbrev pub words_told : List ℕ → Result (List (List ℕ)) FaultKind
words_told line =
    if is_printable line then (if list_any is_bare (words_of line) then Err Words else Ok (words_of line))
    else Err Bytes

-- a bar, which stands between the fields of a line
abbrev pub is_bar : List ℕ → Bool
is_bar word = bytes_eq word (codes "|")

-- the words before an index and those behind it
abbrev pub cut_at : List (List ℕ) → Option ℕ → Result (List (List ℕ) × List (List ℕ)) FaultKind
cut_at words None = Err Words
cut_at words (Some at) = Ok (take at words, drop (at + 1) words)

-- the words before the first bar, and those behind it
abbrev pub cut_at_bar : List (List ℕ) → Result (List (List ℕ) × List (List ℕ)) FaultKind
cut_at_bar words = cut_at words (position is_bar words)

-- the session and the credential that words tell
abbrev pub who_told : List (List ℕ) → Result (ℕ × Caller) FaultKind
who_told [] = Err Words
who_told (session ∷ []) = Err Words
who_told (session ∷ mark ∷ words) =
    if bytes_eq mark (codes "as") then (octet_told session >>= (λ k. caller_said words >>= (λ cred. Ok (k, cred))))
    else Err Words

-- the event of what was asked and the words of what came of it
abbrev pub event_told : Asked → List (List ℕ) → Result Event FaultKind
event_told (User request) words = do
  answer ← answer_told words
  Ok (event.User request answer)
event_told (Cleaner act) words = do
  outcome ← outcome_told words
  Ok (event.Cleaner act outcome)

-- what is read of a field, or its fault
abbrev pub in_field : {A : Type 0} → Field → Result A FaultKind → Result A LineFault
in_field field (Ok x) = Ok x
in_field field (Err kind) = Err (record { field = field; kind = kind })

-- the second reading, if the first has no fault
abbrev pub then_read : {A B : Type 0} → Result A LineFault → (A → Result B LineFault) → Result B LineFault
then_read (Ok x) next = next x
then_read (Err fault) next = Err fault

-- the entry that words tell
abbrev pub fields_told : List (List ℕ) → Result Entry LineFault
fields_told words =
    then_read (in_field field.Line (cut_at_bar words)) (λ first.
    then_read (in_field field.Line (cut_at_bar first.1)) (λ second.
    then_read (in_field field.Caller (who_told first.0)) (λ who.
    then_read (in_field field.Call (asked_told second.0)) (λ asked.
    then_read (in_field field.Answer (event_told asked second.1)) (λ event.
    Ok (record { session = who.0; cred = who.1; event = event }))))))

-- the entry that a line tells, which is given without its line feed, or the line's first fault
unfoldable pub entry_told : List ℕ → Result Entry LineFault
entry_told line = then_read (in_field field.Line (words_told line)) fields_told

-- A line, or a part of one, is read as expected, or as its first fault. Memory may run out before.
abbrev pub ReadsLine : {A : Type 0} → Result A LineFault → Result A LineFault → Type 0
ReadsLine told (Ok x) = told ≡ Ok x
ReadsLine told (Err fault) = fault.kind ≢ Memory → told ≡ Err fault
