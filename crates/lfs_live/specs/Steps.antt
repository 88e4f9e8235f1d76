-- One line heard.
use Rattle.std.specs.Prelude.{◌≡◌, ℕ, ◌||◌, Bool, true, false, List, [], ◌++◌, length, Option}
use Rattle.std.specs.Io.KnownBytes.{Appends, Consumes, Keeps}
use Rattle.lfs_model.specs.declared.journal.Entry.{Entry}
use Rattle.lfs_model.specs.declared.steps.StepAnswer.{StepAnswer}
use Rattle.lfs_sinks.specs.Refusals.{tally_of}
use Rattle.lfs_sinks.specs.declared.totals.Tally.{Tally}
use Rattle.lfs_words.specs.Lines.{HasNoLineFeed}
use Rattle.lfs_script.specs.declared.plan.Act.TheVariants.{Pass}
use Rattle.lfs_volume.specs.Cleanings.{Cleaner}
use Rattle.lfs_volume.specs.Seen.{Seen}
use Rattle.lfs_audit.specs.Runs.{TellsLine}
use Rattle.lfs_live.specs.Faulty.{is_faulty, is_told}
use Rattle.lfs_live.specs.Frames.{framed, frames}
use Rattle.lfs_hearing.specs.Hearing.{heard_of}
use Rattle.lfs_live.specs.Held.{HasKept, Held, Moves, Sink, course_of}
use Rattle.lfs_live.specs.Talkers.{Talker}
use Rattle.lfs_live.specs.Talking.{HasHeardAll, HasHeardSoFar, Hears, IsLast, first_speaker, has_fault_in, is_due}
use Rattle.lfs_live.specs.Pieces.{ended_line}
use Rattle.lfs_hearing.specs.declared.hearing.Heard.{Heard}
use Rattle.lfs_live.specs.declared.framing.Framing.{Framing}
use Rattle.lfs_live.specs.declared.talk.Standing.{Standing}
use Rattle.lfs_audit.specs.declared.asker.Asker.{Asker}

-- The cleaner made a pass where one was due, and what it entered moved on.
pub record HasTidied {F J : Type 0} (r : Cleaner F) (sink : Sink J) (old new : Held F J)
    (more : List Entry) : Type 0 where
  pub passes : is_due r.state (course_of old [] []) ≡ true → (passed : Seen F) × (untold : List ℕ)
      × TellsLine r old.volume passed 255 first_speaker.cred Pass [] untold
      × Moves r.state sink (length old.volume.journal) (record old { volume = passed }) new more
  pub stays : is_due r.state (course_of old [] []) ≡ false → (new ≡ old) × (more ≡ [])

-- What the line of this number says was done, its answers were counted, and this text is told of it.
pub record HasAnswered {F : Type 0} (r : Talker F) (number : ℕ) (old new : Seen F) (tally after : Tally) (speaker
    then : Asker) (said : Heard) (told : List ℕ) : Type 0 where
  pub given : List StepAnswer
  pub heard : (handed : List Entry) (answers : List StepAnswer) → tally ≡ tally_of handed answers
      → Hears r number handed answers old speaker said told new then given
  pub counted : (handed : List Entry) (answers : List StepAnswer) → tally ≡ tally_of handed answers
      → after ≡ tally_of handed (answers ++ given)

-- A volume that is talked to moved on behind a line that left it so, and a pass of the cleaner was made where one was due.
pub record IsTended {F J : Type 0} (r : Cleaner F) (sink : Sink J) (old : Held F J) (middle : Seen F) (tally : Tally)
    (new : Held F J) : Type 0 where
  pub between : Held F J
  pub first : List Entry
  pub then : List Entry
  pub moves : Moves r.state sink (length old.volume.journal) (record old { volume = middle; tally = tally }) between
      first
  pub tidies : HasTidied r sink between new then

-- What a line says was done; then a sink that takes entries got the lines of those that it entered, and they were handed
-- out or not; then what is told of the line was written; and then a pass was made where one was due. A fault of the line
-- is kept in mind.
pub record IsTold {F J : Type 0} (r : Talker F) (sink : Sink J) (old new : Held F J) (was now : Standing)
    (said : Heard) (start out : Option (List ℕ)) : Type 0 where
  pub middle : Seen F
  pub tally : Tally
  pub told : List ℕ
  pub answered : HasAnswered r was.number old.volume middle old.tally tally was.speaker now.speaker said told
  pub tended : IsTended r.cleaner sink old middle tally new
  pub printed : Appends start out (framed was.setting.framing told)
  pub faulty : now.has_fault ≡ (was.has_fault || is_faulty said told)

-- the same of a line that was read with its line feed
pub record HearsNext {F J : Type 0} (r : Talker F) (sink : Sink J) (old new : Held F J) (was now : Standing)
    (known left start out : Option (List ℕ)) : Type 0 where
  pub line : List ℕ
  pub unended : HasNoLineFeed line
  pub heard : IsTold r sink old new was now (heard_of line) start out
  pub taken : Consumes known left (ended_line line)

-- the last was read, and what is told of it is written
pub record HearsLast (was now : Standing) (known left start out : Option (List ℕ)) : Type 0 where
  pub last : List ℕ
  pub texts : List (List ℕ)
  pub ends : IsLast was.number last texts left
  pub taken : Consumes known left last
  pub printed : Appends start out (frames was.setting.framing texts)
  pub faulty : now.has_fault ≡ (was.has_fault || is_told texts)

-- a part of a line was read, of which nothing is told
pub record FailsHere (known left start out : Option (List ℕ)) : Type 0 where
  pub part : List ℕ
  pub unended : HasNoLineFeed part
  pub taken : Consumes known left part
  pub silent : Keeps start out

-- lines were heard up to the last, of which the sink has what it took, and whether one had a fault
pub record HeardAll {F J : Type 0} (r : Talker F) (framing : Framing) (sink : Sink J) (old new : Held F J)
    (has_fault : Bool) (known left start out : Option (List ℕ)) : Type 0 where
  pub handed : List Entry
  pub answers : List StepAnswer
  pub heard : HasHeardAll r framing (course_of old [] []) (course_of new handed answers) known left start out
  pub faulty : has_fault ≡ has_fault_in heard
  pub kept : HasKept r.cleaner.state sink old new handed answers

-- the same up to a read that failed
pub record HeardSoFar {F J : Type 0} (r : Talker F) (framing : Framing) (sink : Sink J) (old new : Held F J)
    (known left start out : Option (List ℕ)) : Type 0 where
  pub handed : List Entry
  pub answers : List StepAnswer
  pub heard : HasHeardSoFar r framing (course_of old [] []) (course_of new handed answers) known left start out
  pub kept : HasKept r.cleaner.state sink old new handed answers
