-- What was asked of a store is told from the state before the call: `asks_now` for `put`, `cut` and `set_attrs`,
-- `asks_from` and `asks_placed` for a Rename, `asked_served` and `asked_refused` for all calls that change files.
-- Between the start of a call and its changes the store was only read, so its state is as it was (`as_old`), and what
-- the changes make is the effect of the call, by the lemma that `leaves` is. By this the store's own contract on what
-- it was asked reaches the caller of a volume; a call that changed the store twice would have no one list of changes.
use Rattle.std.proofs.Common.{◌≡◌, List, [], ◌∷◌, Result, Ok, Err, refl, subst, ◌∙◌}
use Rattle.lfs_types.specs.Caller.{Caller}
use Rattle.lfs_types.specs.Changes.{applied}
use Rattle.lfs_types.specs.Reserves.{reserve_of}
use Rattle.lfs_types.specs.StoreStates.{MovesBase, StoreState}
use Rattle.lfs_types.specs.Tree.{Content}
use Rattle.lfs_types.specs.declared.answer.Answer.{Answer}
use Rattle.lfs_types.specs.declared.answer.Answer.TheVariants as answers
use Rattle.lfs_types.specs.declared.answer.Resource.TheVariants as resources
use Rattle.lfs_types.specs.declared.answer.Served.TheVariants.{Done}
use Rattle.lfs_types.specs.declared.request.Request.{Request}
use Rattle.lfs_types.specs.declared.request.Request.TheVariants.{Stat, Read, Write, List as Names, SetLength, Create}
use Rattle.lfs_types.specs.declared.request.Request.TheVariants.{Mkdir, Unlink, Rmdir, Rename, Chmod, Chown, Chflags}
use Rattle.lfs_types.specs.declared.request.Request.TheVariants.{SetLevel, Sync}
use Rattle.lfs_types.specs.declared.store.Change.{Change}
use Rattle.lfs_types.specs.declared.store.Reserve.{Reserve}
use Rattle.lfs_types.specs.declared.store.StoreRefusal.{StoreRefusal}
use Rattle.lfs_types.specs.declared.store.StoreRefusal.TheVariants.{NoSpace, NoMemory}
use Rattle.lfs_model.specs.Effects.{effect}
use Rattle.lfs_calls.specs.Asked.{Asks, ComesOf, IsAsked, OnAsked, OnChange}
use Rattle.lfs_calls.specs.Calls.{resource_of}
use Rattle.lfs_calls.specs.Content.{Shows}
use Rattle.lfs_calls.specs.Volumes.{InWorld, IsVolume}

-- what holds, holds where a call changes files
pub on_change : {P : Type 0} (request : Request) → P → OnChange request P
on_change (Stat path) p = tt
on_change (Read path off len) p = tt
on_change (Names path) p = tt
on_change (Write path place bytes) p = p
on_change (SetLength path len) p = p
on_change (Create path mode) p = p
on_change (Mkdir path mode) p = p
on_change (Unlink path) p = p
on_change (Rmdir path) p = p
on_change (Rename from to) p = p
on_change (Chmod path mode) p = p
on_change (Chown path uid gid) p = p
on_change (Chflags path flags) p = p
on_change (SetLevel level) p = tt
on_change Sync p = tt

-- what holds of a store's refusal, holds of the answer that rests on it
pub on_refusal : (P : Result (Unit {0}) StoreRefusal → Type 0) (refusal : StoreRefusal) → P (Err refusal)
    → OnAsked (answers.Refused (resource_of refusal)) P
on_refusal P NoSpace p = p
on_refusal P NoMemory p = p

-- what holds of what a store said, holds of the answer that rests on it
pub on_asked : (P Q : Result (Unit {0}) StoreRefusal → Type 0) (answer : Answer)
    → ((said : Result (Unit {0}) StoreRefusal) → P said → Q said) → OnAsked answer P → OnAsked answer Q
on_asked P Q (answers.Served shown) more p = more (Ok tt) p
on_asked P Q (answers.Denied denial) more p = tt
on_asked P Q (answers.Refused resources.NoMemory) more p = more (Err NoMemory) p
on_asked P Q (answers.Refused resources.NoSpace) more p = more (Err NoSpace) p
on_asked P Q (answers.Refused resources.NoInodes) more p = tt
on_asked P Q (answers.Refused resources.DirectoryFull) more p = tt
on_asked P Q (answers.Refused resources.JournalFull) more p = tt

module _ {F : Type 0} (state : F → StoreState) (made : F → List Change → Reserve → Result (Unit {0}) StoreRefusal → F
    → Type 0) where
  -- a store was asked for changes in a state that is the same
  pub asks_now : {old mid new : F} {by named : Reserve} {P : Content → Type 0} {result : Result (Unit {0}) StoreRefusal}
      (change : Change) (changes : List Change)
      → named ≡ by → state mid ≡ state old → made mid (change ∷ changes) named result new
      → MovesBase (state mid) (state new)
      → P (applied (change ∷ changes) (state old).content) → Asks state made old by P result new
  asks_now {mid = mid} {new = new} {result = result} change changes by_is same came base makes = record {
    changes = change ∷ changes;
    came = record {
      before = mid;
      after = new;
      as_old = same;
      came = subst (λ (b : Reserve). made mid (change ∷ changes) b result new) by_is came;
      as_new = refl;
      base = subst (λ (s : StoreState). MovesBase s (state new)) same base;
    };
    makes = makes;
  }

  -- so of changes of which there are some
  pub asks_list : {old mid new : F} {by named : Reserve} {P : Content
      → Type 0} {result : Result (Unit {0}) StoreRefusal} {change : Change} {changes : List Change}
      → named ≡ by → state mid ≡ state old → made mid (change ∷ changes) named result new
      → MovesBase (state mid) (state new)
      → P (applied (change ∷ changes) (state old).content) → Asks state made old by P result new
  asks_list {change = change} {changes = changes} = asks_now change changes

  comes_of : {old mid : F} (new : F) (by : Reserve) (result : Result (Unit {0}) StoreRefusal) (changes : List Change)
      → state mid ≡ state old → ComesOf state made mid changes by result new
      → ComesOf state made old changes by result new
  comes_of new by result [] same (ok, is) = (ok, is ∙ same)
  comes_of new by result (change ∷ changes) same w = record {
    before = w.before;
    after = w.after;
    as_old = w.as_old ∙ same;
    came = w.came;
    as_new = w.as_new;
    base = subst (λ (s : StoreState). MovesBase s (state new)) same w.base;
  }

  -- what was asked in a state that is the same, for changes that make more
  pub asks_from : {old mid new : F} {by : Reserve} {P Q : Content → Type 0} {result : Result (Unit {0}) StoreRefusal}
      → state mid ≡ state old → ((c : Content) → P c → Q c) → Asks state made mid by P result new
      → Asks state made old by Q result new
  asks_from {new = new} {by = by} {P = P} {result = result} same more a = record {
    changes = a.changes;
    came = comes_of new by result a.changes same a.came;
    makes = more _ (subst (λ (s : StoreState). P (applied a.changes s.content)) same a.makes);
  }

  -- so on behalf of the same
  pub asks_placed : {old mid new : F} {by named : Reserve} {P Q : Content
      → Type 0} {result : Result (Unit {0}) StoreRefusal}
      → state mid ≡ state old → named ≡ by → ((c : Content) → P c → Q c) → Asks state made mid named P result new
      → Asks state made old by Q result new
  asks_placed {old = old} {new = new} {Q = Q} {result = result} same by_is more a =
      subst (λ (b : Reserve). Asks state made old b Q result new) by_is (asks_from same more a)

  module _ {old mid new : F} {by : Reserve} {P : Content → Type 0} (request : Request) (caller : Caller)
      (same : state mid ≡ state old) (by_is : by ≡ reserve_of caller)
      (leaves : (s : StoreState) → P s.content
      → InWorld (state old) (λ w. IsVolume s (effect (state old).shape.numbers w caller request))) where
    asks_call : {result : Result (Unit {0}) StoreRefusal} → Asks state made mid by P result new
        → Asks state made old (reserve_of caller)
        (λ c. InWorld (state old) (λ w. Shows c (effect (state old).shape.numbers w caller request))) result new
    asks_call {result} a =
        subst (λ (b : Reserve). Asks state made old b
        (λ c. InWorld (state old) (λ w. Shows c (effect (state old).shape.numbers w caller request))) result new)
        by_is
        (asks_from same (λ c p w v. (leaves (record (state old) { content = c }) p w v).shows) a)

    -- a call whose changes the store made
    pub asked_served : Asks state made mid by P (Ok tt) new
        → IsAsked state made old caller request (answers.Served Done) new
    asked_served a = on_change request (asks_call a)

    -- a call whose changes the store refused
    pub asked_refused : (refusal : StoreRefusal) → Asks state made mid by P (Err refusal) new
        → IsAsked state made old caller request (answers.Refused (resource_of refusal)) new
    asked_refused refusal a = on_change request (on_refusal _ refusal (asks_call a))
