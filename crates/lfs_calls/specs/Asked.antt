-- What a store is asked for by a call that changes files.
use Rattle.std.specs.Prelude.{◌≡◌, List, [], ◌∷◌, Result, Ok, Err}
use Rattle.lfs_types.specs.Asking.{WasAsked}
use Rattle.lfs_types.specs.Caller.{Caller}
use Rattle.lfs_types.specs.Changes.{applied}
use Rattle.lfs_types.specs.Reserves.{reserve_of}
use Rattle.lfs_types.specs.StoreStates.{StoreState}
use Rattle.lfs_types.specs.Tree.{Content}
use Rattle.lfs_types.specs.declared.answer.Answer.{Answer}
use Rattle.lfs_types.specs.declared.answer.Answer.TheVariants.{Served, Denied, Refused}
use Rattle.lfs_types.specs.declared.answer.Resource.TheVariants as resources
use Rattle.lfs_types.specs.declared.request.Request.{Request}
use Rattle.lfs_types.specs.declared.request.Request.TheVariants.{Stat, Read, List as Names, SetLevel, Sync}
use Rattle.lfs_types.specs.declared.store.Change.{Change}
use Rattle.lfs_types.specs.declared.store.Reserve.{Reserve}
use Rattle.lfs_types.specs.declared.store.StoreRefusal.{StoreRefusal}
use Rattle.lfs_types.specs.declared.store.StoreRefusal.TheVariants.{NoSpace, NoMemory}
use Rattle.lfs_model.specs.Effects.{effect}
use Rattle.lfs_calls.specs.declared.call_fault.CallFault.{CallFault}
use Rattle.lfs_calls.specs.Calls.{answered}
use Rattle.lfs_calls.specs.Content.{Shows}
use Rattle.lfs_calls.specs.Volumes.{InWorld}

-- A store was asked for these changes, with this result. Where there are none it is not asked: then the result is good,
-- and the state is as it was.
abbrev pub ComesOf : {F : Type 0} → (F → StoreState)
    → (F → List Change → Reserve → Result (Unit {0}) StoreRefusal → F → Type 0)
    → F → List Change → Reserve → Result (Unit {0}) StoreRefusal → F → Type 0
ComesOf state made old [] by result new = (result ≡ Ok tt) × (state new ≡ state old)
ComesOf state made old (change ∷ changes) by result new =
    WasAsked state made old (change ∷ changes) by result new

-- on somebody's behalf a store was asked for changes that make a content of which P holds, and it came to this
pub record Asks {F : Type 0} (state : F → StoreState)
    (made : F → List Change → Reserve → Result (Unit {0}) StoreRefusal → F → Type 0) (old : F)
    (by : Reserve) (P : Content → Type 0) (result : Result (Unit {0}) StoreRefusal)
    (new : F) : Type 0 where
  pub changes : List Change
  pub came : ComesOf state made old changes by result new
  pub makes : P (applied changes (state old).content)

-- what holds of what a store said where an answer rests on it: the call is served, or space or memory is wanting
abbrev pub OnAsked : Answer → (Result (Unit {0}) StoreRefusal → Type 0) → Type 0
OnAsked (Served shown) P = P (Ok tt)
OnAsked (Denied denial) P = Unit {0}
OnAsked (Refused resources.NoMemory) P = P (Err NoMemory)
OnAsked (Refused resources.NoSpace) P = P (Err NoSpace)
OnAsked (Refused resources.NoInodes) P = Unit {0}
OnAsked (Refused resources.DirectoryFull) P = Unit {0}
OnAsked (Refused resources.JournalFull) P = Unit {0}

-- so where a row was to be put in its place
abbrev pub OnPlaced : Result (Unit {0}) CallFault
    → (Result (Unit {0}) StoreRefusal → Type 0) → Type 0
OnPlaced (Ok placed) P = P (Ok placed)
OnPlaced (Err why) P = OnAsked (answered (Err why)) P

-- what holds where a call changes files
abbrev pub OnChange : Request → Type 0 → Type 0
OnChange (Stat path) P = Unit {0}
OnChange (Read path off len) P = Unit {0}
OnChange (Names path) P = Unit {0}
OnChange (SetLevel level) P = Unit {0}
OnChange Sync P = Unit {0}
OnChange request P = P

-- A call that changes files was answered so: where it is served, or refused for want of space or memory, the store was
-- asked on the caller's behalf for changes that make the call, as its state stood, said so, and was left as they left
-- it.
abbrev pub IsAsked : {F : Type 0} → (F → StoreState)
    → (F → List Change → Reserve → Result (Unit {0}) StoreRefusal → F → Type 0)
    → F → Caller → Request → Answer → F → Type 0
IsAsked state made old caller request answer new =
    OnChange request (OnAsked answer (λ result. Asks state made old (reserve_of caller)
    (λ c. InWorld (state old) (λ w. Shows c (effect (state old).shape.numbers w caller request)))
    result new))
