-- What a run of a script on threads prints.
use Rattle.std.specs.Prelude.{◌≡◌, ℕ, ◌+◌, ◌<◌, ◌≤◌, true, false, List, [], ◌∷◌, ◌++◌, length, map, Option, IfSome}
use Rattle.std.specs.Global.{Vec}
use Rattle.std.specs.Io.KnownBytes.{Appends}
use Rattle.std.specs.List.{flat_map, list_any}
use Rattle.lfs_types.specs.Caller.{Caller}
use Rattle.lfs_types.specs.Tree.{opening_world}
use Rattle.lfs_types.specs.declared.answer.Answer.{Answer}
use Rattle.lfs_types.specs.declared.request.Request.{Request}
use Rattle.lfs_model.specs.Steps.{IsLegal}
use Rattle.lfs_model.specs.declared.journal.Entry.{Entry}
use Rattle.lfs_model.specs.declared.steps.StepAnswer.{StepAnswer}
use Rattle.lfs_model.specs.declared.steps.StepAnswer.TheVariants.{User}
use Rattle.lfs_settle.specs.Interleaving.{IsInterleaving, Run}
use Rattle.lfs_print.specs.AnswerText.{answer_line}
use Rattle.lfs_script.specs.PlanTypes.{Planned}
use Rattle.lfs_sinks.specs.Refusals.{run_report}
use Rattle.lfs_script.specs.Splitting.{Sorts, is_of_cleaner}
use Rattle.lfs_server.specs.Serving.{IsInRange, IsServeFault}
use Rattle.lfs_audit.specs.Faults.{IsRead, IsReadingFault, MayHaveWritten}
use Rattle.lfs_audit.specs.declared.fault.RunFault.TheVariants.{Write}
use Rattle.lfs_audit.specs.declared.fault.ThreadsFault.{ThreadsFault}
use Rattle.lfs_audit.specs.declared.fault.ThreadsFault.TheVariants as threads

-- a fault of a run on threads that may have written
abbrev pub MayHaveWrittenThreads : ThreadsFault → Type 0
MayHaveWrittenThreads (threads.Run fault) = MayHaveWritten fault
MayHaveWrittenThreads threads.CleanerLine = ⊥
MayHaveWrittenThreads (threads.Serve fault) = ⊥

-- the lines of the answers to a session's calls
abbrev pub transcript_text : ℕ → List Answer → List ℕ
transcript_text session answers = flat_map (answer_line session) answers

-- the lines of the answers to the calls of this session and of those that follow it
abbrev pub transcripts_text : ℕ → List (List Answer) → List ℕ
transcripts_text session [] = []
transcripts_text session (answers ∷ transcripts) = transcript_text session answers
    ++ transcripts_text (session + 1) transcripts

-- the answers to all calls of the setup and of the sessions
abbrev pub answers_of : List Answer → List (List Answer) → List StepAnswer
answers_of setup transcripts = map User setup ++ flat_map (map User) transcripts

-- what is written of a run with this journal and these answers: the setup's lines, those of each session, and the
-- report
abbrev pub closed_text : List Entry → List Answer → List (List Answer) → List ℕ
closed_text journal setup transcripts =
    transcript_text 0 setup ++ transcripts_text 1 transcripts ++ run_report journal (answers_of setup transcripts)

-- a writer got the text of a run with this journal and these answers
abbrev pub IsClosedText : List Entry → List Answer → List (Vec Answer) → Option (List ℕ) → Option (List ℕ) → Type 0
IsClosedText journal setup transcripts old new =
    Appends old new (closed_text journal setup (map (λ (transcript : Vec Answer). transcript.items) transcripts))

-- calls are those of a script, split: no line is the cleaner's, the setup has those of session 0, and each script those
-- of its session, from 1 to the highest that a line names
pub record IsSplit (script : List ℕ) (setup : List (Caller × Request))
    (scripts : List (List (Caller × Request))) : Type 0 where
  pub plan : Planned
  pub read : IsRead script plan
  pub users : list_any is_of_cleaner plan.steps ≡ false
  pub count : length scripts ≡ plan.sessions
  pub sorted : Sorts plan.steps (plan.sessions + 1) (setup ∷ scripts)

-- A text is that of a run of a script on threads, on a volume of so many segments and inode numbers whose journal may
-- have so many entries: the setup and the scripts are the script's, split; the journal is legal from the opening tree
-- and an interleaving of them with these answers, of which the lines are printed, and the report.
pub record IsThreadsOutput (script : List ℕ) (segments inodes limit : ℕ) (text : List ℕ) : Type 0 where
  pub run : Run
  pub split : IsSplit script run.setup run.scripts
  pub limited : run.limit ≡ limit
  pub legal : IsLegal inodes segments run.journal opening_world
  pub interleaved : IsInterleaving run
  pub printed : text ≡ closed_text run.journal run.answers run.transcripts

-- ---- faults

-- a line of a script asks for a call of the cleaner, or for a pass
pub record HasCleanerLine (script : List ℕ) : Type 0 where
  pub plan : Planned
  pub read : IsRead script plan
  pub cleaner : list_any is_of_cleaner plan.steps ≡ true

-- no line of a script does, and it has so many sessions
pub record HasSessions (script : List ℕ) (sessions : ℕ) : Type 0 where
  pub plan : Planned
  pub read : IsRead script plan
  pub users : list_any is_of_cleaner plan.steps ≡ false
  pub count : sessions ≡ plan.sessions

-- a script of these bytes, where they are known, may not be split for this fault
abbrev pub IsSplittingFault : Option (List ℕ) → ThreadsFault → Type 0
IsSplittingFault script (threads.Run fault) = IsReadingFault script fault
IsSplittingFault script threads.CleanerLine = IfSome script HasCleanerLine
IsSplittingFault script (threads.Serve fault) = ⊥

-- a run of such a script on threads, on a volume over a log of so many segments, inode numbers and frames, may end in
-- this fault, of which an earlier one here comes before a later one: those of reading and parsing, a line of the
-- cleaner's, those of serving, a write that failed; memory may run out at any step
abbrev pub IsThreadsFault : Option (List ℕ) → ℕ → ℕ → ℕ → ThreadsFault → Type 0
IsThreadsFault script segments inodes frames (threads.Run Write) =
    IfSome script (λ bytes. (sessions : ℕ) × HasSessions bytes sessions × (0 < sessions) × (sessions ≤ 8))
    × IsInRange segments inodes frames
IsThreadsFault script segments inodes frames (threads.Run fault) = IsReadingFault script fault
IsThreadsFault script segments inodes frames threads.CleanerLine = IfSome script HasCleanerLine
IsThreadsFault script segments inodes frames (threads.Serve fault) =
    IfSome script (λ bytes. (sessions : ℕ) × HasSessions bytes sessions
    × IsServeFault sessions segments inodes frames fault)
