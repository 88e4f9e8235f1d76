-- How a call leaves a store's base: `call_moves`, for a volume. A call that asks a store for no changes leaves its
-- whole state, so its base (`same_base`); one that asks leaves it as these changes do, which is a field of what was
-- asked; and a Sync as the store's own contract says.
use Rattle.std.proofs.Common.{◌≡◌, List, [], ◌∷◌, Option, None, Some, Result, Ok, Err, refl, sym, subst, inl}
use Rattle.lfs_types.specs.Caller.{Caller}
use Rattle.lfs_types.specs.Reserves.{reserve_of}
use Rattle.lfs_types.specs.StoreStates.{Base, LeavesTold, MovesBase, StoreState}
use Rattle.lfs_types.specs.Tree.{Content}
use Rattle.lfs_types.specs.declared.answer.Answer.{Answer}
use Rattle.lfs_types.specs.declared.answer.Answer.TheVariants.{Served, Denied, Refused}
use Rattle.lfs_types.specs.declared.answer.Resource.TheVariants as resources
use Rattle.lfs_types.specs.declared.request.Request.{Request}
use Rattle.lfs_types.specs.declared.request.Request.TheVariants.{Stat, Read, Write, List as Names, SetLength, Create}
use Rattle.lfs_types.specs.declared.request.Request.TheVariants.{Mkdir, Unlink, Rmdir, Rename, Chmod, Chown, Chflags}
use Rattle.lfs_types.specs.declared.request.Request.TheVariants.{SetLevel, Sync}
use Rattle.lfs_types.specs.declared.store.Change.{Change}
use Rattle.lfs_types.specs.declared.store.Reserve.{Reserve}
use Rattle.lfs_types.specs.declared.store.StoreRefusal.{StoreRefusal}
use Rattle.lfs_calls.specs.Asked.{Asks, ComesOf, IsAsked, OnAsked}
use Rattle.lfs_calls.specs.Calls.{LooksOn, OnUnasked}

-- a base that is the same is left as it was
pub same_told : (before after : Content) (base : Option Base) → LeavesTold before after base base
same_told before after None = tt
same_told before after (Some base) = inl (refl, refl)

-- so is that of a state that is the same
pub same_base : (old new : StoreState) → new ≡ old → MovesBase old new
same_base old new same = subst (MovesBase old) (sym same) (same_told old.content old.content old.base)

module _ {F : Type 0} (state : F → StoreState) (made : F → List Change → Reserve → Result (Unit {0}) StoreRefusal → F
    → Type 0) (old new : F) where
  asked_base : (by : Reserve) (result : Result (Unit {0}) StoreRefusal) (changes : List Change)
      → ComesOf state made old changes by result new → MovesBase (state old) (state new)
  asked_base by result [] came = same_base (state old) (state new) came.1
  asked_base by result (change ∷ changes) came = came.base

  -- a call that changes files
  changed_base : (by : Reserve) (P : Content → Type 0) (answer : Answer) → OnUnasked answer (state new ≡ state old)
      → OnAsked answer (λ result. Asks state made old by P result new) → MovesBase (state old) (state new)
  changed_base by P (Served shown) unasked asks = asked_base by (Ok tt) asks.changes asks.came
  changed_base by P (Denied denial) unasked asks = same_base (state old) (state new) unasked
  changed_base by P (Refused resources.NoMemory) unasked asks = asked_base by (Err _) asks.changes asks.came
  changed_base by P (Refused resources.NoSpace) unasked asks = asked_base by (Err _) asks.changes asks.came
  changed_base by P (Refused resources.NoInodes) unasked asks = same_base (state old) (state new) unasked
  changed_base by P (Refused resources.DirectoryFull) unasked asks = same_base (state old) (state new) unasked
  changed_base by P (Refused resources.JournalFull) unasked asks = same_base (state old) (state new) unasked

  pub call_moves : (caller : Caller) (request : Request) (answer : Answer) → LooksOn request (state old) (state new)
      → OnUnasked answer (state new ≡ state old) → (request ≡ Sync → MovesBase (state old) (state new))
      → IsAsked state made old caller request answer new → MovesBase (state old) (state new)
  call_moves caller (Stat path) answer looks unasked syncs asked = same_base (state old) (state new) looks
  call_moves caller (Read path off len) answer looks unasked syncs asked = same_base (state old) (state new) looks
  call_moves caller (Names path) answer looks unasked syncs asked = same_base (state old) (state new) looks
  call_moves caller (SetLevel level) answer looks unasked syncs asked = same_base (state old) (state new) looks
  call_moves caller Sync answer looks unasked syncs asked = syncs refl
  call_moves caller (Write path place bytes) answer looks unasked syncs asked =
      changed_base (reserve_of caller) _ answer unasked asked
  call_moves caller (SetLength path len) answer looks unasked syncs asked =
      changed_base (reserve_of caller) _ answer unasked asked
  call_moves caller (Create path mode) answer looks unasked syncs asked =
      changed_base (reserve_of caller) _ answer unasked asked
  call_moves caller (Mkdir path mode) answer looks unasked syncs asked =
      changed_base (reserve_of caller) _ answer unasked asked
  call_moves caller (Unlink path) answer looks unasked syncs asked =
      changed_base (reserve_of caller) _ answer unasked asked
  call_moves caller (Rmdir path) answer looks unasked syncs asked =
      changed_base (reserve_of caller) _ answer unasked asked
  call_moves caller (Rename from to) answer looks unasked syncs asked =
      changed_base (reserve_of caller) _ answer unasked asked
  call_moves caller (Chmod path mode) answer looks unasked syncs asked =
      changed_base (reserve_of caller) _ answer unasked asked
  call_moves caller (Chown path uid gid) answer looks unasked syncs asked =
      changed_base (reserve_of caller) _ answer unasked asked
  call_moves caller (Chflags path flags) answer looks unasked syncs asked =
      changed_base (reserve_of caller) _ answer unasked asked
