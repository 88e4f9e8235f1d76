-- Users' calls, made one after another on a volume.
use Rattle.std.specs.Prelude.{◌≡◌, ◌↔◌, ℕ, ◌<◌, List, [], ◌∷◌, ◌++◌, length, Result}
use Rattle.lfs_types.specs.Caller.{Caller}
use Rattle.lfs_types.specs.StoreStates.{Follows, MovesBase, StoreState}
use Rattle.lfs_types.specs.Tree.{World}
use Rattle.lfs_types.specs.declared.answer.Answer.{Answer}
use Rattle.lfs_types.specs.declared.answer.Answer.TheVariants.{Served, Refused}
use Rattle.lfs_types.specs.declared.answer.Resource.TheVariants.{JournalFull}
use Rattle.lfs_types.specs.declared.answer.Served.TheVariants.{Done}
use Rattle.lfs_types.specs.declared.request.Request.{Request}
use Rattle.lfs_types.specs.declared.request.Request.TheVariants.{Sync}
use Rattle.lfs_types.specs.declared.store.Change.{Change}
use Rattle.lfs_types.specs.declared.store.Reserve.{Reserve}
use Rattle.lfs_types.specs.declared.store.StoreRefusal.{StoreRefusal}
use Rattle.lfs_model.specs.declared.journal.Call.{Call}
use Rattle.lfs_model.specs.declared.journal.Entry.{Entry}
use Rattle.lfs_model.specs.Runs.{IsUnserved, kept_entry}
use Rattle.lfs_model.specs.Steps.{world_after}
use Rattle.lfs_calls.specs.Asked.{IsAsked}
use Rattle.lfs_calls.specs.Calls.{LooksOn, OnUnasked}
use Rattle.lfs_calls.specs.Entries.{LeavesEntries, OnServed}
use Rattle.lfs_calls.specs.Outcomes.{IsOutcome}
use Rattle.lfs_calls.specs.Volumes.{IsVolume}

-- A user's call was answered so behind a journal that began in this world, and led from one store to another:
-- JournalFull exactly where the journal has its limit, and then the store is as before; else the answer has its cause
-- over the store as it was, which shows the journal's world. A call that is served leaves the entries of directories in
-- their places, and a Sync nothing waiting; one that isn't leaves the content; one that looks, that a rule denies or
-- that wants a number, room for a name or the journal's room leaves the whole state of the store as it was; the state
-- that is left is a later one (`Follows`); and a base that the store tells is as it was, or as what the store contained
-- before the call, or contains now.
pub record IsCallMade {F : Type 0} (state : F → StoreState) (is_flushed : F → Type 0) (limit : ℕ) (from : World)
    (journal : List Entry) (old : F) (caller : Caller) (request : Request) (answer : Answer) (new : F) : Type 0 where
  pub full : (answer ≡ Refused JournalFull) ↔ (length journal ≡ limit)
  pub at_limit : length journal ≡ limit → new ≡ old
  pub shown : IsVolume (state old) (world_after (state old).shape.numbers journal from)
  pub outcome : length journal < limit → IsOutcome (state old)
      (world_after (state old).shape.numbers journal from) caller request answer
  pub entries : OnServed answer (LeavesEntries request (state old).content (state new).content
      (world_after (state old).shape.numbers journal from).rows)
  pub unserved : IsUnserved answer → (state new).content ≡ (state old).content
  pub looks : LooksOn request (state old) (state new)
  pub unasked : OnUnasked answer (state new ≡ state old)
  pub synced : request ≡ Sync → answer ≡ Served Done → is_flushed new
  pub follows : Follows (state old) (state new)
  pub base : MovesBase (state old) (state new)

-- The same, and a call that changes files is served, or refused for want of space or memory, as the store said to the
-- changes that make it, asked on the caller's behalf, and left the store as they left it.
pub record IsCallAsked {F : Type 0} (state : F → StoreState) (is_flushed : F → Type 0)
    (said : F → List Change → Reserve → Result (Unit {0}) StoreRefusal → F → Type 0) (limit : ℕ) (from : World)
    (journal : List Entry) (old : F) (caller : Caller) (request : Request) (answer : Answer) (new : F) : Type 0 where
  pub made : IsCallMade state is_flushed limit from journal old caller request answer new
  pub asked : IsAsked state said old caller request answer new

-- Calls were answered behind a journal, one after another, and led from one store to another: each was made, as this
-- says, behind the journal and on the store that the one before it left.
abbrev pub AreMadeSo : {F : Type 0} → (List Entry → F → Call → Answer → F → Type 0) → List Entry → F → List Call
    → List Answer → F → Type 0
AreMadeSo Is journal old [] [] new = new ≡ old
AreMadeSo Is journal old [] (answer ∷ answers) new = ⊥
AreMadeSo Is journal old (call ∷ calls) [] new = ⊥
AreMadeSo {F} Is journal old (call ∷ calls) (answer ∷ answers) new =
    (next : F) × Is journal old call answer next
    × AreMadeSo Is (journal ++ kept_entry call.session call.cred call.request answer) next calls answers new

-- calls were answered so, each with its cause
abbrev pub AreAnswers : {F : Type 0} → (F → StoreState) → (F → Type 0) → ℕ → World → List Entry → F → List Call
    → List Answer → F → Type 0
AreAnswers state is_flushed limit from journal old calls answers new =
    AreMadeSo (λ before this call answer next.
    IsCallMade state is_flushed limit from before this call.cred call.request answer next) journal old calls answers new

-- and each that changes files as the store said
abbrev pub AreCallsAsked : {F : Type 0} → (F → StoreState) → (F → Type 0)
    → (F → List Change → Reserve → Result (Unit {0}) StoreRefusal → F → Type 0) → ℕ → World → List Entry → F → List Call
    → List Answer → F → Type 0
AreCallsAsked state is_flushed said limit from journal old calls answers new =
    AreMadeSo (λ before this call answer next.
    IsCallAsked state is_flushed said limit from before this call.cred call.request answer next) journal old calls answers
    new
