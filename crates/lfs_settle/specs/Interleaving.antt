-- When a journal is an interleaving of what sessions asked and were answered.
use Rattle.std.specs.Prelude.{◌≡◌, ℕ, ◌-◌, ◌<◌, ◌≤◌, ◌==◌, ◌⊎◌, Bool, true, false, List, [], ◌∷◌, ◌++◌, length, map}
use Rattle.std.specs.Prelude.{drop, Option, None, Some}
use Rattle.std.specs.Global.{Vec}
use Rattle.std.specs.List.{filter, list_any, slice_get}
use Rattle.lfs_types.specs.Caller.{Caller}
use Rattle.lfs_types.specs.declared.answer.Answer.{Answer}
use Rattle.lfs_types.specs.declared.answer.Answer.TheVariants.{Refused}
use Rattle.lfs_types.specs.declared.answer.Resource.TheVariants.{NoMemory, JournalFull}
use Rattle.lfs_types.specs.declared.request.Request.{Request}
use Rattle.lfs_model.specs.Memory.{IsCopying}
use Rattle.lfs_model.specs.Runs.{kept}
use Rattle.lfs_model.specs.declared.journal.Call.{Call}
use Rattle.lfs_model.specs.declared.journal.Entry.{Entry}
use Rattle.lfs_model.specs.declared.journal.Event.{Event}
use Rattle.lfs_model.specs.declared.journal.Event.TheVariants.{User, Cleaner}

-- what a run left: the journal and how many entries that may have, the setup's calls and answers, and those of the
-- sessions from session 1 on
pub record Run : Type 0 where
  pub journal : List Entry
  pub limit : ℕ
  pub setup : List (Caller × Request)
  pub answers : List Answer
  pub scripts : List (List (Caller × Request))
  pub transcripts : List (List Answer)

-- that of these lists, the transcripts being vectors
abbrev pub run_of : List Entry → ℕ → List (Caller × Request) → List Answer → List (List (Caller × Request))
    → List (Vec Answer) → Run
run_of journal limit setup answers scripts transcripts = record {
  journal = journal;
  limit = limit;
  setup = setup;
  answers = answers;
  scripts = scripts;
  transcripts = map (λ (transcript : Vec Answer). transcript.items) transcripts;
}

-- ---- one list of calls and its answers

-- the calls of a script as those of a session
abbrev pub calls_of : ℕ → List (Caller × Request) → List Call
calls_of session script = map (λ call. record { session = session; cred = call.0; request = call.1 }) script

-- the entries that the calls of a script with these answers make
abbrev pub entries_kept : ℕ → List (Caller × Request) → List Answer → List Entry
entries_kept session script answers = kept (calls_of session script) answers

-- an answer may be given: want of memory to a Read or a List alone, want of room in the journal only where that is full
abbrev pub MayAnswer : Bool → Request → Answer → Type 0
MayAnswer is_full request (Refused NoMemory) = IsCopying request
MayAnswer is_full request (Refused JournalFull) = is_full ≡ true
MayAnswer is_full request answer = Unit {0}

-- there is an answer to each call, one that may be given
abbrev pub AreAnswered : Bool → List (Caller × Request) → List Answer → Type 0
AreAnswered is_full [] [] = Unit {0}
AreAnswered is_full [] (answer ∷ answers) = ⊥
AreAnswered is_full (call ∷ script) [] = ⊥
AreAnswered is_full (call ∷ script) (answer ∷ answers) =
    MayAnswer is_full call.1 answer × AreAnswered is_full script answers

-- whether an answer tells that the journal has no room
abbrev pub is_journal_full : Answer → Bool
is_journal_full (Refused JournalFull) = true
is_journal_full answer = false

-- behind an answer that the journal has no room there is no other; whether one such came before
abbrev pub StaysFull : Bool → List Answer → Type 0
StaysFull was_full [] = Unit {0}
StaysFull was_full (answer ∷ answers) =
    (was_full ≡ true → is_journal_full answer ≡ true) × StaysFull (is_journal_full answer) answers

-- ---- the setup

-- the entries are those of the setup's next calls, and these later ones
abbrev pub IsEntered : Bool → List Entry → List (Caller × Request) → List Answer → List Entry → Type 0
IsEntered is_full entries setup answers later =
    AreAnswered is_full setup answers × (entries ≡ entries_kept 0 setup answers ++ later)

-- the journal has no later entry where it had no room for one of these answers
abbrev pub EndsFull : List Answer → List Entry → Type 0
EndsFull answers later = list_any is_journal_full answers ≡ true → later ≡ []

-- the entries are those of the setup's calls, and these later ones, of which there are none where the journal had no
-- room for the setup
abbrev pub IsBegun : Bool → List Entry → List (Caller × Request) → List Answer → List Entry → Type 0
IsBegun is_full entries setup answers later =
    IsEntered is_full entries setup answers later × StaysFull false answers × EndsFull answers later

-- ---- a session

-- the entries of a session, in order
abbrev pub session_entries : ℕ → List Entry → List Entry
session_entries session entries = filter (λ (entry : Entry). entry.session == session) entries

-- the session's entries are those of its next calls
abbrev pub AreEntered : Bool → List Entry → ℕ → List (Caller × Request) → List Answer → Type 0
AreEntered is_full entries session script answers =
    AreAnswered is_full script answers × (session_entries session entries ≡ entries_kept session script answers)

-- the session's entries are those of its calls
abbrev pub MadeItsCalls : Bool → List Entry → ℕ → List (Caller × Request) → List Answer → Type 0
MadeItsCalls is_full entries session script answers =
    AreEntered is_full entries session script answers × StaysFull false answers

-- the session's two lists meet its entries, or there is neither
abbrev pub Agrees : Bool → List Entry → ℕ → Option (List (Caller × Request)) → Option (List Answer) → Type 0
Agrees is_full entries session None None = Unit {0}
Agrees is_full entries session None (Some answers) = ⊥
Agrees is_full entries session (Some script) None = ⊥
Agrees is_full entries session (Some script) (Some answers) = MadeItsCalls is_full entries session script answers

-- the same of the lists in a session's place, session 1's being the first
abbrev pub AgreesAt : Bool → List Entry → List (List (Caller × Request)) → List (List Answer) → ℕ → Type 0
AgreesAt is_full entries scripts transcripts session =
    Agrees is_full entries session (slice_get scripts (session - 1)) (slice_get transcripts (session - 1))

-- u is the lowest session from 1 on that differs
abbrev pub IsLowest : Bool → List Entry → List (List (Caller × Request)) → List (List Answer) → ℕ → Type 0
IsLowest is_full entries scripts transcripts u =
    (1 ≤ u) × (u < 255)
    × ((session : ℕ) → 1 ≤ session → session < u → AgreesAt is_full entries scripts transcripts session)
    × (AgreesAt is_full entries scripts transcripts u → ⊥)

-- ---- strangers

abbrev pub IsCleaners : Event → Type 0
IsCleaners (User request answer) = ⊥
IsCleaners (Cleaner act outcome) = Unit {0}

-- the entry is of one of so many sessions, or of the cleaner: session 255, as user 0
abbrev pub IsOfRun : ℕ → Entry → Type 0
IsOfRun sessions entry =
    ((1 ≤ entry.session) × (entry.session ≤ sessions))
    ⊎ ((entry.session ≡ 255) × (entry.cred.uid ≡ 0) × IsCleaners entry.event)

-- no entry is a stranger's
abbrev pub HasNoStrangers : ℕ → List Entry → Type 0
HasNoStrangers sessions [] = Unit {0}
HasNoStrangers sessions (entry ∷ entries) = IsOfRun sessions entry × HasNoStrangers sessions entries

-- ---- the run

-- whether the journal has its limit
abbrev pub is_full : Run → Bool
is_full run = length run.journal == run.limit

-- the entries behind those of the setup
abbrev pub later_entries : Run → List Entry
later_entries run = drop (length (entries_kept 0 run.setup run.answers)) run.journal

-- the journal begins with the setup
abbrev pub BeginsWithSetup : Run → Type 0
BeginsWithSetup run = IsBegun (is_full run) run.journal run.setup run.answers (later_entries run)

-- the lists of a session from 1 on meet its later entries
abbrev pub HasSession : Run → ℕ → Type 0
HasSession run session = AgreesAt (is_full run) (later_entries run) run.scripts run.transcripts session

-- no later entry is a stranger's
abbrev pub HasNoStranger : Run → Type 0
HasNoStranger run = HasNoStrangers (length run.scripts) (later_entries run)

-- the journal is an interleaving of the setup and the scripts, with these answers
pub record IsInterleaving (run : Run) : Type 0 where
  pub setup : BeginsWithSetup run
  pub sessions : (session : ℕ) → 1 ≤ session → HasSession run session
  pub strangers : HasNoStranger run

-- u is the lowest session that differs: 0 the setup, 255 where only a stranger does
abbrev pub IsLowestToDiffer : Run → ℕ → Type 0
IsLowestToDiffer run u =
    ((u ≡ 0) × (BeginsWithSetup run → ⊥))
    ⊎ ((BeginsWithSetup run × IsLowest (is_full run) (later_entries run) run.scripts run.transcripts u)
    ⊎ ((u ≡ 255) × BeginsWithSetup run × ((session : ℕ) → 1 ≤ session → HasSession run session)
    × (HasNoStranger run → ⊥)))
