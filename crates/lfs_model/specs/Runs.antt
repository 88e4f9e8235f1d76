-- What calls and runs of calls leave of the journal.
use Rattle.std.specs.Prelude.{◌≡◌, ℕ, ◌+◌, ◌≤◌, List, [], ◌∷◌, ◌++◌, length, Option, None, Some, option_map}
use Rattle.lfs_types.specs.Caller.{Caller}
use Rattle.lfs_types.specs.declared.answer.Answer.{Answer}
use Rattle.lfs_types.specs.declared.answer.Answer.TheVariants.{Served, Denied, Refused}
use Rattle.lfs_types.specs.declared.answer.Resource.TheVariants.{NoMemory, NoSpace, JournalFull}
use Rattle.lfs_types.specs.declared.cleaner.CleanerCall.{CleanerCall}
use Rattle.lfs_types.specs.declared.cleaner.CleanerCall.TheVariants as calls
use Rattle.lfs_types.specs.declared.request.Request.{Request}
use Rattle.lfs_types.specs.declared.request.Request.TheVariants.{Sync}
use Rattle.lfs_model.specs.declared.asking.CleanerAct.{CleanerAct}
use Rattle.lfs_model.specs.declared.asking.CleanerAct.TheVariants.{Ifile, Infos, Bmapv, Markv, Segclean, Gain}
use Rattle.lfs_model.specs.declared.journal.Call.{Call}
use Rattle.lfs_model.specs.declared.journal.Entry.{Entry}
use Rattle.lfs_model.specs.declared.journal.CleanerAnswer.{CleanerAnswer}
use Rattle.lfs_model.specs.declared.journal.CleanerAnswer.TheVariants as cleaner
use Rattle.lfs_model.specs.declared.journal.CleanerOutcome.{CleanerOutcome}
use Rattle.lfs_model.specs.declared.journal.CleanerOutcome.TheVariants as outcomes
use Rattle.lfs_model.specs.declared.journal.Event.{Event}
use Rattle.lfs_model.specs.declared.journal.Event.TheVariants.{User, Cleaner}
use Rattle.lfs_model.specs.declared.steps.Act.{Act}
use Rattle.lfs_model.specs.declared.steps.Act.TheVariants as acts
use Rattle.lfs_model.specs.declared.steps.Step.{Step}
use Rattle.lfs_model.specs.declared.steps.StepAnswer.{StepAnswer}
use Rattle.lfs_model.specs.declared.steps.StepAnswer.TheVariants as answers

-- the event of a user's call that was answered so: none where memory or the journal's room ran out
abbrev pub user_event : Request → Answer → Option Event
user_event request (Refused NoMemory) = None
user_event request (Refused JournalFull) = None
user_event request answer = Some (User request answer)

-- what a call of the cleaner asks: the very segment or infos that it hands in
abbrev pub act_of : CleanerCall → CleanerAct
act_of calls.Ifile = Ifile
act_of (calls.Infos segment) = Infos segment
act_of (calls.Bmapv infos) = Bmapv infos
act_of (calls.Markv marks) = Markv marks
act_of (calls.Segclean segment) = Segclean segment
act_of calls.Gain = Gain

-- what the journal tells of a cleaner's answer: nothing where memory or the journal's room ran out
abbrev pub outcome_of : CleanerAnswer → Option CleanerOutcome
outcome_of (cleaner.Refused resource) = None
outcome_of (cleaner.Denied denial) = Some outcomes.Denied
outcome_of (cleaner.Fault fault) = Some (outcomes.Fault fault)
outcome_of (cleaner.Ifile bytes) = Some (outcomes.Done (length bytes))
outcome_of (cleaner.Infos infos) = Some (outcomes.Done (length infos))
outcome_of (cleaner.Bmapv infos) = Some (outcomes.Done (length infos))
outcome_of (cleaner.Marked count) = Some (outcomes.Done count)
outcome_of cleaner.Cleaned = Some (outcomes.Done 0)
outcome_of cleaner.Gained = Some (outcomes.Done 0)

-- the event of a cleaner's call that was answered so
abbrev pub cleaner_event : CleanerCall → CleanerAnswer → Option Event
cleaner_event call answer = option_map (Cleaner (act_of call)) (outcome_of answer)

-- the event of a step that was answered so: none where the answer is one to a call of another sort
abbrev pub step_event : Act → StepAnswer → Option Event
step_event (acts.User request) (answers.User answer) = user_event request answer
step_event (acts.User request) (answers.Cleaner answer) = None
step_event (acts.Cleaner call) (answers.User answer) = None
step_event (acts.Cleaner call) (answers.Cleaner answer) = cleaner_event call answer

-- the entry of an event of a session, if there is one
abbrev pub journaled : ℕ → Caller → Option Event → List Entry
journaled session caller None = []
journaled session caller (Some event) = record { session = session; cred = caller; event = event } ∷ []

-- the entry of a user's call that was answered so
abbrev pub kept_entry : ℕ → Caller → Request → Answer → List Entry
kept_entry session caller request answer = journaled session caller (user_event request answer)

-- the entries of calls with their answers, in order
abbrev pub kept : List Call → List Answer → List Entry
kept [] answers = []
kept (call ∷ calls) [] = []
kept (call ∷ calls) (answer ∷ answers) = kept_entry call.session call.cred call.request answer ++ kept calls answers

-- the entry of a cleaner's call that was answered so
abbrev pub kept_cleaning : ℕ → Caller → CleanerCall → CleanerAnswer → List Entry
kept_cleaning session caller call answer = journaled session caller (cleaner_event call answer)

-- the entry of a step that was answered so
abbrev pub kept_step : Step → StepAnswer → List Entry
kept_step step answer = journaled step.session step.cred (step_event step.act answer)

-- the entries of steps with their answers, in order
abbrev pub kept_steps : List Step → List StepAnswer → List Entry
kept_steps [] answers = []
kept_steps (step ∷ steps) [] = []
kept_steps (step ∷ steps) (answer ∷ answers) = kept_step step answer ++ kept_steps steps answers

-- a call wasn't served
abbrev pub IsUnserved : Answer → Type 0
IsUnserved (Served shown) = ⊥
IsUnserved (Denied denial) = Unit {0}
IsUnserved (Refused resource) = Unit {0}

-- ---- users alone

-- the events that are left without the cleaner: users' calls but Sync that weren't refused for a resource
abbrev pub users_event : Event → Option Event
users_event (User Sync answer) = None
users_event (User request (Refused resource)) = None
users_event (User request answer) = Some (User request answer)
users_event (Cleaner act outcome) = None

-- the entries without the cleaner's, the Syncs and those refused for a resource
abbrev pub users_alone : List Entry → List Entry
users_alone [] = []
users_alone (entry ∷ entries) = journaled entry.session entry.cred (users_event entry.event) ++ users_alone entries

-- ---- clean segments

-- how many segments an event makes clean at most
abbrev pub cleans : Event → ℕ
cleans (Cleaner (Segclean segment) (outcomes.Done n)) = 1
cleans (Cleaner Gain (outcomes.Done n)) = 1
cleans event = 0

-- how many segments became clean by the entries at most
abbrev pub cleaned : List Entry → ℕ
cleaned [] = 0
cleaned (entry ∷ entries) = cleans entry.event + cleaned entries

-- an event is a call refused for want of space
abbrev pub IsNoSpace : Event → Type 0
IsNoSpace (User request answer) = answer ≡ Refused NoSpace
IsNoSpace (Cleaner act outcome) = ⊥

-- a call refused for want of space stands among the entries of a volume with so many clean segments only where at most
-- two of them weren't made clean after it
abbrev pub IsShort : ℕ → List Entry → Type 0
IsShort clean [] = Unit {0}
IsShort clean (entry ∷ entries) = (IsNoSpace entry.event → clean ≤ 2 + cleaned entries) × IsShort clean entries
