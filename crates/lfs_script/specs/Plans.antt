-- The plan of a script: a function of its text.
use Rattle.std.specs.Prelude.{ℕ, ◌+◌, ◌==◌, max, false, List, [], ◌∷◌, ◌++◌, length, Option, None, Some, Result, Ok}
use Rattle.std.specs.Prelude.{Err, if◌then◌else◌}
use Rattle.std.specs.List.{list_any, slice_split}
use Rattle.lfs_words.specs.Callers.{caller_said}
use Rattle.lfs_script.specs.CleanerCalls.{cleaner_said}
use Rattle.lfs_words.specs.Faults.{◌>>=◌}
use Rattle.lfs_words.specs.Lines.{is_printable, is_skipped}
use Rattle.lfs_words.specs.Numbers.{number_of}
use Rattle.lfs_script.specs.PlanTypes.{Drafted, Planned}
use Rattle.lfs_script.specs.Requests.{request_said}
use Rattle.lfs_script.specs.Verbs.{verb_of}
use Rattle.lfs_words.specs.Wording.{is_bare, no_word, one_word, words_of}
use Rattle.lfs_words.specs.declared.fault.FaultKind.{FaultKind}
use Rattle.lfs_words.specs.declared.fault.FaultKind.TheVariants as fault
use Rattle.lfs_script.specs.declared.fault.ScriptFault.{ScriptFault}
use Rattle.lfs_script.specs.declared.plan.Act.TheVariants.{User, Cleaner, Pass}
use Rattle.lfs_script.specs.declared.plan.Line.{Line}
use Rattle.lfs_script.specs.declared.plan.Line.TheVariants.{Nothing, Session, Caller, Act}
use Rattle.lfs_script.specs.declared.verb.Verb.{Verb}
use Rattle.lfs_script.specs.declared.verb.Verb.TheVariants as verb

-- what the words behind a verb say, or their first fault
abbrev pub verb_said : Verb → List (List ℕ) → Result Line FaultKind
verb_said verb.Session words = do
  word ← one_word words
  session ← number_of 10 20 8 word
  Ok (Session session)
verb_said verb.As words = do
  cred ← caller_said words
  Ok (Caller cred)
verb_said (verb.User kind) words = do
  request ← request_said kind words
  Ok (Act (User request))
verb_said (verb.Cleaner kind) words = do
  call ← cleaner_said kind words
  Ok (Act (Cleaner call))
verb_said verb.Pass words = do
  none ← no_word words
  Ok (Act Pass)

-- the same where a word may be no verb
abbrev pub verb_found : Option Verb → List (List ℕ) → Result Line FaultKind
verb_found None words = Err fault.Words
verb_found (Some verb) words = verb_said verb words

-- what words say, of which the first is to be a verb
abbrev pub words_said : List (List ℕ) → Result Line FaultKind
words_said [] = Err fault.Words
words_said (first ∷ words) = verb_found (verb_of first) words

-- what the text of a line says, or its first fault
abbrev pub text_said : List ℕ → Result Line FaultKind
text_said line =
    if is_skipped line then Ok Nothing else
    if list_any is_bare (words_of line) then Err fault.Words else words_said (words_of line)

-- what a line says, which is given without its line feed, or its first fault
unfoldable pub line_said : List ℕ → Result Line FaultKind
line_said line = if is_printable line then text_said line else Err fault.Bytes

-- no lines: session 0, and the superuser with group 0, who is not init
abbrev pub first_draft : Drafted
first_draft = record { session = 0; cred = record { uid = 0; groups = 0 ∷ []; init = false }; sessions = 0; steps = [] }

-- one more line
abbrev pub added : Drafted → Line → Drafted
added draft Nothing = draft
added draft (Session session) = record draft { session = session; sessions = max draft.sessions session }
added draft (Caller cred) = record draft { cred = cred }
added draft (Act act) =
    record draft { steps = draft.steps ++ record { session = draft.session; cred = draft.cred; act = act } ∷ [] }

abbrev pub planned : Drafted → Planned
planned draft = record { steps = draft.steps; sessions = draft.sessions }

-- a value, or a fault of this line
abbrev pub at_line : {X : Type 0} → ℕ → Result X FaultKind → (X → Result Planned ScriptFault)
    → Result Planned ScriptFault
at_line line (Ok x) next = next x
at_line line (Err kind) next = Err (record { line = line; kind = kind })

-- what stands between the line feeds of a text, and behind the last
abbrev pub lines_of : List ℕ → List (List ℕ)
lines_of text = slice_split (λ b. b == 10) text

-- the plan that a draft grows to by lines, of which the first is line `line`, or their first fault; the last is to
-- be empty, since a line ends in a line feed
unfoldable pub plan_from : ℕ → Drafted → List (List ℕ) → Result Planned ScriptFault
plan_from line draft [] = Ok (planned draft)
plan_from line draft (text ∷ texts) =
    if length texts == 0 then
    (if is_bare text then Ok (planned draft) else Err (record { line = line; kind = fault.Cut }))
    else at_line line (line_said text) (λ said. plan_from (line + 1) (added draft said) texts)

-- the plan of a text, or its first fault; lines count from 1
abbrev pub plan_of : List ℕ → Result Planned ScriptFault
plan_of text = plan_from 1 first_draft (lines_of text)
