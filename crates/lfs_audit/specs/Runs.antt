-- What the lines of a plan have done on a volume, and the lines of the answers.
use Rattle.std.specs.Prelude.{◌≡◌, ℕ, ◌≤◌, List, [], ◌∷◌, ◌++◌, length, Option, None, Some}
use Rattle.std.specs.Io.KnownBytes.{Appends}
use Rattle.lfs_types.specs.Caller.{Caller}
use Rattle.lfs_types.specs.declared.cleaner.CleanerCall.{CleanerCall}
use Rattle.lfs_types.specs.declared.request.Request.{Request}
use Rattle.lfs_model.specs.declared.journal.CleanerAnswer.{CleanerAnswer}
use Rattle.lfs_model.specs.declared.steps.Act.{Act as Asked}
use Rattle.lfs_model.specs.declared.steps.Act.TheVariants as acts
use Rattle.lfs_model.specs.declared.steps.Step.{Step as Made}
use Rattle.lfs_model.specs.declared.steps.StepAnswer.{StepAnswer}
use Rattle.lfs_model.specs.declared.steps.StepAnswer.TheVariants as told
use Rattle.lfs_model.specs.Cleaning.{kind_of}
use Rattle.lfs_model.specs.Runs.{act_of, kept_steps}
use Rattle.lfs_cleaner.specs.Passing.{Steps}
use Rattle.lfs_cleaner.specs.declared.pass.Pass.{Pass}
use Rattle.lfs_cleaner.specs.declared.pass.Stage.TheVariants.{Ready}
use Rattle.lfs_print.specs.AnswerText.{answer_line}
use Rattle.lfs_print.specs.CleanerText.{cleaner_line}
use Rattle.lfs_script.specs.declared.plan.Act.{Act}
use Rattle.lfs_script.specs.declared.plan.Act.TheVariants as plan
use Rattle.lfs_script.specs.declared.plan.Step.{Step}
use Rattle.lfs_volume.specs.Cleanings.{Cleaner}
use Rattle.lfs_volume.specs.Journals.{Since}
use Rattle.lfs_volume.specs.Seen.{Seen}
use Rattle.lfs_sinks.specs.Refusals.{AddsUp}
use Rattle.lfs_sinks.specs.declared.refusals.Refusals.{Refusals}
use Rattle.lfs_volume.specs.StepRuns.{AreSteps}

-- ---- lines

-- the line of the answer to a call of a session; none where the answer is one to a call of another sort
abbrev pub call_line : ℕ → Asked → StepAnswer → List ℕ
call_line session (acts.User request) (told.User answer) = answer_line session answer
call_line session (acts.User request) (told.Cleaner answer) = []
call_line session (acts.Cleaner call) (told.User answer) = []
call_line session (acts.Cleaner call) (told.Cleaner answer) = cleaner_line session (kind_of (act_of call)) answer

-- the lines of the answers to steps
abbrev pub lines_text : List Made → List StepAnswer → List ℕ
lines_text [] answers = []
lines_text (step ∷ steps) [] = []
lines_text (step ∷ steps) (answer ∷ answers) = call_line step.session step.act answer ++ lines_text steps answers

-- ---- what a plan asks for

-- the step of a user's call
abbrev pub call_step : ℕ → Caller → Request → Made
call_step session caller request = record { session = session; cred = caller; act = acts.User request }

-- the step of a call of the cleaner
abbrev pub cleaning_step : ℕ → Caller → CleanerCall → Made
cleaning_step session caller call = record { session = session; cred = caller; act = acts.Cleaner call }

-- From where a pass stands, told an answer to its last call, it comes to stand there, told the last of these answers:
-- it makes these steps one after another, each as its next call once the one before it is answered.
abbrev pub Passes : ℕ → Caller → Pass → Option CleanerAnswer → List Made → List StepAnswer → Pass → Option CleanerAnswer
    → Type 0
Passes session caller pass last [] [] then latest = (then ≡ pass) × (latest ≡ last)
Passes session caller pass last [] (answer ∷ answers) then latest = ⊥
Passes session caller pass last (step ∷ steps) [] then latest = ⊥
Passes session caller pass last (step ∷ steps) (answer ∷ answers) then latest =
    (call : CleanerCall) × (given : CleanerAnswer) × (next : Pass)
    × (step ≡ cleaning_step session caller call) × (answer ≡ told.Cleaner given)
    × Steps pass last (Some call) next
    × Passes session caller next (Some given) steps answers then latest

-- a pass that has made no call
abbrev pub first_pass : Pass
first_pass = record { rounds = 3; stage = Ready }

-- steps that were answered so are a whole pass of this caller, from its first call to where it makes none any more: at
-- most 105
pub record IsPass (session : ℕ) (caller : Caller) (made : List Made) (answers : List StepAnswer) : Type 0 where
  pub pass : Pass
  pub last : Option CleanerAnswer
  pub after : Pass
  pub makes : Passes session caller first_pass None made answers pass last
  pub ends : Steps pass last None after
  pub few : length made ≤ 105

-- steps that were answered so are what a line of a plan asks for: a call of a user or of the cleaner, or a pass
abbrev pub IsAsked : ℕ → Caller → Act → List Made → List StepAnswer → Type 0
IsAsked session caller (plan.User request) made answers =
    (answer : StepAnswer) × (made ≡ call_step session caller request ∷ []) × (answers ≡ answer ∷ [])
IsAsked session caller (plan.Cleaner call) made answers =
    (answer : StepAnswer) × (made ≡ cleaning_step session caller call ∷ []) × (answers ≡ answer ∷ [])
IsAsked session caller plan.Pass made answers = IsPass session caller made answers

-- steps that were answered so are what the lines of a plan ask for, in order
abbrev pub AreAsked : List Step → List Made → List StepAnswer → Type 0
AreAsked [] made answers = (made ≡ []) × (answers ≡ [])
AreAsked (step ∷ steps) made answers =
    (first : List Made) × (rest : List Made) × (given : List StepAnswer) × (others : List StepAnswer)
    × (made ≡ first ++ rest) × (answers ≡ given ++ others)
    × IsAsked step.session step.cred step.act first given × AreAsked steps rest others

-- ---- what it does on a volume

-- a volume became this one by steps that were answered so, one each, from wherever its journal began
pub record Runs {F : Type 0} (r : Cleaner F) (old new : Seen F) (made : List Made)
    (answers : List StepAnswer) : Type 0 where
  pub count : length answers ≡ length made
  pub answered : Since (r.state old.since) old.since_level
      (λ from. AreSteps r old.limit from old.journal old.store made answers new.store)
  pub entered : new.journal ≡ old.journal ++ kept_steps made answers
  pub limit : new.limit ≡ old.limit
  pub shape : (r.state new.store).shape ≡ (r.state old.store).shape
  pub since : new.since ≡ old.since
  pub since_level : new.since_level ≡ old.since_level

-- a volume became this one by a call of the cleaner, whose answer was counted, and its line added to a text
pub record TellsCleaning {F : Type 0} (r : Cleaner F) (old new : Seen F) (counts then : Refusals) (session : ℕ)
    (caller : Caller) (call : CleanerCall) (answer : CleanerAnswer) (before after : List ℕ) : Type 0 where
  pub ran : Runs r old new (cleaning_step session caller call ∷ []) (told.Cleaner answer ∷ [])
  pub counted : AddsUp counts then (told.Cleaner answer ∷ [])
  pub printed : after ≡ before ++ cleaner_line session (kind_of (act_of call)) answer

-- a volume became this one by what a line of a plan asks for, and the lines of the answers were added to a text
pub record TellsLine {F : Type 0} (r : Cleaner F) (old new : Seen F) (session : ℕ) (caller : Caller) (act : Act)
    (before after : List ℕ) : Type 0 where
  pub made : List Made
  pub answers : List StepAnswer
  pub asked : IsAsked session caller act made answers
  pub ran : Runs r old new made answers
  pub printed : after ≡ before ++ lines_text made answers

-- the same, and the answers were counted
pub record CountsLine {F : Type 0} (r : Cleaner F) (old new : Seen F) (counts then : Refusals) (session : ℕ)
    (caller : Caller) (act : Act) (before after : List ℕ) : Type 0 where
  pub tells : TellsLine r old new session caller act before after
  pub counted : AddsUp counts then tells.answers

-- a volume became this one by what the lines of a plan ask for, the answers were counted, and what a writer is known to
-- hold or to get became longer by their lines
pub record WritesLines {F : Type 0} (r : Cleaner F) (old new : Seen F) (counts then : Refusals) (steps : List Step)
    (start known : Option (List ℕ)) : Type 0 where
  pub made : List Made
  pub answers : List StepAnswer
  pub asked : AreAsked steps made answers
  pub ran : Runs r old new made answers
  pub counted : AddsUp counts then answers
  pub printed : Appends start known (lines_text made answers)
