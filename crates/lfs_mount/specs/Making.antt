-- Calls of a message, made on a volume one after another.
use Rattle.std.specs.Prelude.{◌≡◌, ◌≤◌, Bool, true, false, List, [], ◌∷◌, ◌++◌, length, take, map}
use Rattle.lfs_types.specs.Caller.{Caller}
use Rattle.lfs_types.specs.StoreStates.{StoreState}
use Rattle.lfs_types.specs.declared.answer.Answer.{Answer}
use Rattle.lfs_types.specs.declared.request.Request.{Request}
use Rattle.lfs_model.specs.declared.journal.Call.{Call}
use Rattle.lfs_model.specs.Runs.{kept}
use Rattle.lfs_volume.specs.CallRuns.{AreAnswers}
use Rattle.lfs_volume.specs.Journals.{Since}
use Rattle.lfs_volume.specs.Seen.{Seen}
use Rattle.lfs_fuse_calls.specs.Shown.{is_full, wanted_by}
use Rattle.lfs_mount.specs.Runs.{IsRun}

-- a call of session 0 as a caller
abbrev pub call_as : Caller → Request → Call
call_as caller request = record { session = 0; cred = caller; request = request }

-- calls as a caller, who is the same for each
abbrev pub calls_as : Caller → List Request → List Call
calls_as caller requests = map (call_as caller) requests

-- goes on, or ends here
abbrev pub EndsOr : Bool → Type 0 → List Answer → Type 0
EndsOr true GoesOn answers = GoesOn
EndsOr false GoesOn answers = answers ≡ []

-- Answers go up to the first that isn't served in full: all before it are, and where there is none, all calls have one.
abbrev pub GoUpTo : List Request → List Answer → Type 0
GoUpTo [] [] = Unit {0}
GoUpTo [] (answer ∷ answers) = ⊥
GoUpTo (request ∷ requests) [] = ⊥
GoUpTo (request ∷ requests) (answer ∷ answers) =
    EndsOr (is_full (wanted_by request) answer) (GoUpTo requests answers) answers

-- what holds where a call was answered
abbrev pub OnAny : List Answer → Type 0 → Type 0
OnAny [] P = Unit {0}
OnAny (answer ∷ answers) P = P

-- The calls that were made of those that were asked for: as many as have answers, all as one caller, each answered as a
-- call of the volume is, on the store that the one before it left, and each entered, for which the journal had room, and
-- which stays a legal run; up to the first that isn't served in full.
pub record AreMade {F : Type 0} (state : F → StoreState) (is_flushed : F → Type 0) (caller : Caller)
    (requests : List Request) (answers : List Answer) (old new : Seen F) : Type 0 where
  pub each : Since (state old.since) old.since_level
      (λ from. AreAnswers state is_flushed old.limit from old.journal old.store
      (calls_as caller (take (length answers) requests)) answers new.store)
  pub entered : new.journal ≡ old.journal ++ kept (calls_as caller (take (length answers) requests))
      answers
  pub within : OnAny answers (Since (state old.since) old.since_level
      (λ from. length new.journal ≤ new.limit))
  pub up_to : GoUpTo requests answers
  pub since : new.since ≡ old.since
  pub since_level : new.since_level ≡ old.since_level
  pub limit : new.limit ≡ old.limit
  pub shape : (state new.store).shape ≡ (state old.store).shape
  pub legal : IsRun state old → IsRun state new
