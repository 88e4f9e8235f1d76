-- What comes of a Sync, and of a volume that is to be saved.
use Rattle.std.proofs.Common.{◌≡◌, ◌≢◌, IfOk, Result, Ok, Err}
use Rattle.std.specs.Prelude.{MatchResult}
use Rattle.lfs_types.specs.declared.answer.Answer.{Answer}
use Rattle.lfs_types.specs.declared.answer.Answer.TheVariants.{Served}
use Rattle.lfs_types.specs.declared.answer.Served.TheVariants.{Done}

-- behind one that is done nothing waits
pub sync_flushes : {A E : Type 0} (answer : Answer) (outcome : Result A E) (Flushed : Type 0)
    → (answer ≡ Served Done → Flushed)
    → MatchResult outcome (λ _. answer ≡ Served Done) (λ _. answer ≢ Served Done)
    → MatchResult outcome (λ _. (answer ≡ Served Done) × Flushed) (λ _. answer ≢ Served Done)
sync_flushes answer (Ok a) Flushed flushes done = (done, flushes done)
sync_flushes answer (Err e) Flushed flushes undone = undone

-- what holds of a result where something does, which does
pub if_ok_given : {A E W : Type 0} (result : Result A E) (Q : A → Type 0) → IfOk result (λ a. W → Q a) → W
    → IfOk result Q
if_ok_given (Ok a) Q holds w = holds w
if_ok_given (Err e) Q holds w = tt
