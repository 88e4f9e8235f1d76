-- What a user's call of a store comes to.
use Rattle.std.specs.Prelude.{◌≡◌, Result, Ok, Err, IfErr, OnOk, OnErr}
use Rattle.lfs_types.specs.Caller.{Caller}
use Rattle.lfs_types.specs.Shown.{ServesList}
use Rattle.lfs_types.specs.StoreStates.{Follows, StoreState, MayRefuse}
use Rattle.lfs_types.specs.Tree.{Content}
use Rattle.lfs_types.specs.declared.answer.Answer.{Answer}
use Rattle.lfs_types.specs.declared.answer.Answer.TheVariants as answers
use Rattle.lfs_types.specs.declared.answer.Resource.{Resource}
use Rattle.lfs_types.specs.declared.answer.Resource.TheVariants as resources
use Rattle.lfs_types.specs.declared.answer.Served.{Served}
use Rattle.lfs_types.specs.declared.level.Level.{Level}
use Rattle.lfs_types.specs.declared.request.Request.{Request}
use Rattle.lfs_types.specs.declared.request.Request.TheVariants.{Stat, Read, List as Names, SetLevel, Sync}
use Rattle.lfs_types.specs.declared.store.StoreRefusal.{StoreRefusal}
use Rattle.lfs_types.specs.declared.store.StoreRefusal.TheVariants.{NoSpace, NoMemory}
use Rattle.lfs_model.specs.Steps.{after_answer}
use Rattle.lfs_calls.specs.declared.call_fault.CallFault.{CallFault}
use Rattle.lfs_calls.specs.declared.call_fault.CallFault.TheVariants.{Denied, Refused}
use Rattle.lfs_calls.specs.Entries.{LeavesEntries, OnServed}
use Rattle.lfs_calls.specs.Outcomes.{IsOutcome}
use Rattle.lfs_calls.specs.Volumes.{InWorld, IsVolume}

-- the resource that ran out where a store refused changes
abbrev pub resource_of : StoreRefusal → Resource
resource_of NoSpace = resources.NoSpace
resource_of NoMemory = resources.NoMemory

-- the answer to a call that came to this
abbrev pub answered : Result Served CallFault → Answer
answered (Ok shown) = answers.Served shown
answered (Err (Denied denial)) = answers.Denied denial
answered (Err (Refused resource)) = answers.Refused resource

-- a store is changed to a content of which P holds, or not at all; a refusal has its cause
pub record ChangesTo (old : StoreState) (P : Content → Type 0)
    (result : Result (Unit {0}) StoreRefusal) (new : StoreState) : Type 0 where
  pub ok : OnOk result (P new.content)
  pub err : OnErr result (new.content ≡ old.content)
  pub refused : IfErr result (MayRefuse old)
  pub follows : Follows old new

-- what a call leaves that only looks, or that sets the level: the state as it was; and of a Sync the content
abbrev pub LooksOn : Request → StoreState → StoreState → Type 0
LooksOn (Stat path) old new = new ≡ old
LooksOn (Read path off len) old new = new ≡ old
LooksOn (Names path) old new = new ≡ old
LooksOn (SetLevel level) old new = new ≡ old
LooksOn Sync old new = new.content ≡ old.content
LooksOn request old new = Unit {0}

-- P, where an answer comes without asking a store for changes: a rule denies the call, or it wants a number, room for a
-- name or the journal's room; not where it is served, nor where space or memory is wanting
abbrev pub OnUnasked : Answer → Type 0 → Type 0
OnUnasked (answers.Served shown) P = Unit {0}
OnUnasked (answers.Denied denial) P = P
OnUnasked (answers.Refused resources.NoMemory) P = Unit {0}
OnUnasked (answers.Refused resources.NoSpace) P = Unit {0}
OnUnasked (answers.Refused resources.NoInodes) P = P
OnUnasked (answers.Refused resources.DirectoryFull) P = P
OnUnasked (answers.Refused resources.JournalFull) P = P

-- A caller made a call of a store at this securelevel, and it came to this: the answer has its cause, the store shows
-- the world that the answer leaves, a served call leaves the entries of directories in their places, a call that halts
-- or lists changes no content, one that looks, that a rule denies or that wants a number or room for a name leaves the
-- whole state as it was, and the state that is left is a later one (`Follows`).
pub record IsCallAt (level : Level) (old new : StoreState) (caller : Caller) (request : Request)
    (result : Result Served CallFault) : Type 0 where
  pub outcome : InWorld old (λ w. w.level ≡ level
      → IsOutcome old w caller request (answered result))
  pub leaves : InWorld old (λ w. IsVolume new
      (after_answer old.shape.numbers w caller request (answered result)))
  pub entries : OnServed (answered result)
      (InWorld old (λ w. LeavesEntries request old.content new.content w.rows))
  pub halted : OnErr result (new.content ≡ old.content)
  pub looks : LooksOn request old new
  pub unasked : OnUnasked (answered result) (new ≡ old)
  pub listed : ServesList (answered result) → new.content ≡ old.content
  pub follows : Follows old new

-- so at any securelevel
abbrev pub IsCall : StoreState → StoreState → Caller → Request → Result Served CallFault → Type 0
IsCall old new caller request result = (level : Level)
    → IsCallAt level old new caller request result
