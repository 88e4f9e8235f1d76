-- What was asked of a store for a call whose answer tells of the want of memory: `asked_lack` and `asked_copy`, for
-- `answer_twice`. If the call itself lacked memory, what it asked is what the answer says. If it served a list of which
-- no copy could be made, nothing was asked, as no call that serves bytes or names changes a file (`list_changes`): each
-- that changes one is answered Done, by the rules.
use Rattle.std.proofs.Common.{◌≡◌, List, Result, true, refl, subst}
use Rattle.lfs_types.specs.Caller.{Caller}
use Rattle.lfs_types.specs.Shown.{IsList, ServesList}
use Rattle.lfs_types.specs.StoreStates.{StoreState}
use Rattle.lfs_types.specs.Tree.{World}
use Rattle.lfs_types.specs.declared.answer.Answer.{Answer}
use Rattle.lfs_types.specs.declared.answer.Answer.TheVariants.{Served, Denied, Refused}
use Rattle.lfs_types.specs.declared.answer.Resource.TheVariants.{NoMemory}
use Rattle.lfs_types.specs.declared.answer.Served.{Served as Shown}
use Rattle.lfs_types.specs.declared.level.Level.{Level}
use Rattle.lfs_types.specs.declared.request.Request.{Request}
use Rattle.lfs_types.specs.declared.request.Request.TheVariants.{Stat, Read, Write, List as Names, SetLength, Create}
use Rattle.lfs_types.specs.declared.request.Request.TheVariants.{Mkdir, Unlink, Rmdir, Rename, Chmod, Chown, Chflags}
use Rattle.lfs_types.specs.declared.request.Request.TheVariants.{SetLevel, Sync}
use Rattle.lfs_types.specs.declared.store.Change.{Change}
use Rattle.lfs_types.specs.declared.store.Reserve.{Reserve}
use Rattle.lfs_types.specs.declared.store.StoreRefusal.{StoreRefusal}
use Rattle.lfs_calls.specs.Asked.{IsAsked, OnChange}
use Rattle.lfs_calls.specs.Outcomes.{IsOutcome}
use Rattle.lfs_calls.specs.Volumes.{HasWorld, IsVolume}
use Rattle.lfs_volume.specs.Copies.{is_lack_of_memory}
use Rattle.lfs_volume.specs.Journals.{IsAnswered}
use Rattle.lfs_volume.proofs.JournalLemmas.{lack_is}

-- a call that serves a list changes no file
list_changes : (P : Type 0) (s : StoreState) (w : World) (caller : Caller) (request : Request) (shown : Shown)
    → IsOutcome s w caller request (Served shown) → IsList shown → OnChange request P
list_changes P s w caller (Stat path) shown o h = tt
list_changes P s w caller (Read path off len) shown o h = tt
list_changes P s w caller (Names path) shown o h = tt
list_changes P s w caller (Write path place bytes) shown o h = let none = subst IsList o.0.2 h in absurd none
list_changes P s w caller (SetLength path len) shown o h = let none = subst IsList o.0.2 h in absurd none
list_changes P s w caller (Create path mode) shown o h = let none = subst IsList o.0.2 h in absurd none
list_changes P s w caller (Mkdir path mode) shown o h = let none = subst IsList o.0.2 h in absurd none
list_changes P s w caller (Unlink path) shown o h = let none = subst IsList o.0.2 h in absurd none
list_changes P s w caller (Rmdir path) shown o h = let none = subst IsList o.0.2 h in absurd none
list_changes P s w caller (Rename from to) shown o h = let none = subst IsList o.0.2 h in absurd none
list_changes P s w caller (Chmod path mode) shown o h = let none = subst IsList o.0.2 h in absurd none
list_changes P s w caller (Chown path uid gid) shown o h = let none = subst IsList o.0.2 h in absurd none
list_changes P s w caller (Chflags path flags) shown o h = let none = subst IsList o.0.2 h in absurd none
list_changes P s w caller (SetLevel level) shown o h = tt
list_changes P s w caller Sync shown o h = tt

listed_changes : (P : Type 0) (s : StoreState) (w : World) (caller : Caller) (request : Request) (answer : Answer)
    → IsOutcome s w caller request answer → ServesList answer → OnChange request P
listed_changes P s w caller request (Served shown) o h = list_changes P s w caller request shown o h
listed_changes P s w caller request (Denied denial) o h = absurd h
listed_changes P s w caller request (Refused resource) o h = absurd h

module _ {F : Type 0} (state : F → StoreState) (made : F → List Change → Reserve → Result (Unit {0}) StoreRefusal → F
    → Type 0) (old new : F) (caller : Caller) (request : Request)
    (answer : Answer) where
  -- a call whose answer tells of it
  pub asked_lack : IsAsked state made old caller request answer new → is_lack_of_memory answer ≡ true
      → IsAsked state made old caller request (Refused NoMemory) new
  asked_lack a h = subst (λ x. IsAsked state made old caller request x new) (lack_is answer h) a

  -- a call whose answer wanted memory for its copy
  pub asked_copy : (level level_after : Level) → HasWorld (state old)
      → IsAnswered (state old) (state new) level level_after caller request answer → ServesList answer
      → IsAsked state made old caller request (Refused NoMemory) new
  asked_copy level level_after has a list =
      let here : World = record has.0 { level = level } in
      let shown : IsVolume (state old) here = record {
        shows =
            record { files = has.1.shows.files; sizes = has.1.shows.sizes; listings = has.1.shows.listings };
        tree = has.1.tree;
      } in
      listed_changes _ (state old) here caller request answer (a.outcome here shown refl) list
