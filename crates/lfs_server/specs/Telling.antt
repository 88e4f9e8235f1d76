-- What a call of a session leaves in its transcript.
use Rattle.std.specs.Prelude.{◌≡◌, ◌<◌, List, [], ◌∷◌, ◌++◌, length, vec_len}
use Rattle.std.specs.Vec.{vec_capacity}
use Rattle.lfs_types.specs.Caller.{Caller}
use Rattle.lfs_types.specs.declared.answer.Answer.{Answer}
use Rattle.lfs_types.specs.declared.request.Request.{Request}
use Rattle.lfs_model.specs.Runs.{kept_entry}
use Rattle.lfs_model.specs.declared.journal.Entry.{Entry}
use Rattle.lfs_settle.specs.Interleaving.{entries_kept}
use Rattle.lfs_settle.specs.declared.transcripts.Transcript.{Transcript}
use Rattle.lfs_server.specs.declared.batch.Batch.{Batch}

-- a transcript has room for a call more and its answer
pub record HasRoom (t : Transcript) : Type 0 where
  pub calls : vec_len t.calls < vec_capacity t.calls
  pub answers : vec_len t.answers < vec_capacity t.answers

-- a transcript has this call and its answer more
pub record Adds (call : Caller × Request) (answer : Answer) (old new : Transcript) : Type 0 where
  pub session : new.session ≡ old.session
  pub calls : new.calls.items ≡ old.calls.items ++ call ∷ []
  pub answers : new.answers.items ≡ old.answers.items ++ answer ∷ []

-- a call of a session was told: the journal has its entry more, with the answer that its transcript has more
abbrev pub IsTold : List Entry → List Entry → Caller × Request → Transcript → Transcript → Type 0
IsTold before after call old new =
    (answer : Answer) × (after ≡ before ++ kept_entry old.session call.0 call.1 answer) × Adds call answer old new

-- a session made these calls with these answers, the first of those that it makes next: the journal has their entries
-- more, in order, with the very answers that the session has more
pub record IsMade (before after : List Entry) (old new : Batch) (made : List (Caller × Request)) (told : List Answer)
    : Type 0 where
  pub calls : old.calls.items ≡ made ++ new.calls.items
  pub answers : new.answers.items ≡ old.answers.items ++ told
  pub each : length told ≡ length made
  pub entered : after ≡ before ++ entries_kept old.turns.session made told
  pub session : new.turns.session ≡ old.turns.session

-- the same, whichever of them these are
abbrev pub AreMade : List Entry → List Entry → Batch → Batch → Type 0
AreMade before after old new =
    (made : List (Caller × Request)) × (told : List Answer) × IsMade before after old new made told
