-- How to prove that a call came to what IsCallAt says, once for each way it can end: `denied`, `lacking`, `refused`,
-- `shown` and `done`, for the functions that serve calls. Each way fixes what became of the store: nothing changed
-- where a rule denied or a resource was wanting before, no content where the store refused, and else the change whose
-- effect the caller of the lemma shows. A field added to IsCallAt is proved here, in five places; what a call leaves as
-- it was is read off the request (`looks_same`), so a new request needs its line there.
use Rattle.std.proofs.Common.{◌≡◌, None, Some, Ok, Err, inl, sym, subst, ◌∙◌}
use Rattle.lfs_types.specs.Caller.{Caller}
use Rattle.lfs_types.specs.StoreStates.{Follows, StoreState, MayRefuse}
use Rattle.lfs_types.specs.Tree.{Content, World}
use Rattle.lfs_types.specs.declared.answer.Answer.TheVariants as answers
use Rattle.lfs_types.specs.declared.answer.Resource.{Resource}
use Rattle.lfs_types.specs.declared.answer.Resource.TheVariants as resources
use Rattle.lfs_types.specs.declared.answer.Served.{Served}
use Rattle.lfs_types.specs.declared.answer.Served.TheVariants.{Done}
use Rattle.lfs_types.specs.declared.level.Level.{Level}
use Rattle.lfs_types.specs.declared.request.Request.{Request}
use Rattle.lfs_types.specs.declared.request.Request.TheVariants.{Stat, Read, Write, List as Names, SetLength, Create}
use Rattle.lfs_types.specs.declared.request.Request.TheVariants.{Mkdir, Unlink, Rmdir, Rename, Chmod, Chown, Chflags}
use Rattle.lfs_types.specs.declared.request.Request.TheVariants.{SetLevel, Sync}
use Rattle.lfs_types.specs.declared.rule.Denial.{Denial}
use Rattle.lfs_types.specs.declared.store.StoreRefusal.{StoreRefusal}
use Rattle.lfs_types.specs.declared.store.StoreRefusal.TheVariants.{NoSpace, NoMemory}
use Rattle.lfs_model.specs.Effects.{answer_of, effect}
use Rattle.lfs_model.specs.Rules.{decide}
use Rattle.lfs_model.specs.Steps.{IsChanging, LacksInodes}
use Rattle.lfs_calls.specs.declared.call_fault.CallFault.TheVariants.{Denied, Refused}
use Rattle.lfs_calls.specs.Calls.{ChangesTo, IsCallAt, LooksOn, OnUnasked, resource_of}
use Rattle.lfs_calls.specs.Content.{Shows}
use Rattle.lfs_calls.specs.Entries.{LeavesEntries}
use Rattle.lfs_calls.specs.Outcomes.{FillsDirectory, IsOutcome}
use Rattle.lfs_calls.specs.Volumes.{InWorld, IsVolume}
use Rattle.lfs_calls.proofs.StateLemmas.{same_content, follows_itself, follows_same}

-- a call is to be served: the rules allow it, and it lacks neither a number nor room for a name
pub record IsToServe (s : StoreState) (caller : Caller) (request : Request) (w : World) : Type 0 where
  pub allowed : decide w caller request ≡ None
  pub numbered : LacksInodes s.shape.numbers w request → ⊥
  pub roomy : FillsDirectory s.content w request → ⊥

-- a volume is one still where the same store shows the same world
pub still : {s new : StoreState} {w : World} → new ≡ s → IsVolume s w → IsVolume new w
still {w = w} same v = subst (λ (x : StoreState). IsVolume x w) (sym same) v

-- where nothing changed, a call that looks changed nothing
pub looks_same : {old new : StoreState} (request : Request) → new ≡ old → LooksOn request old new
looks_same (Stat path) same = same
looks_same (Read path off len) same = same
looks_same (Names path) same = same
looks_same (Write path place bytes) same = tt
looks_same (SetLength path len) same = tt
looks_same (Create path mode) same = tt
looks_same (Mkdir path mode) same = tt
looks_same (Unlink path) same = tt
looks_same (Rmdir path) same = tt
looks_same (Rename from to) same = tt
looks_same (Chmod path mode) same = tt
looks_same (Chown path uid gid) same = tt
looks_same (Chflags path flags) same = tt
looks_same (SetLevel level) same = same
looks_same Sync same = same_content same

-- and so where the content of a call that changes files didn't
looks_kept : (old new : StoreState) (request : Request) → IsChanging request → new.content ≡ old.content
    → LooksOn request old new
looks_kept old new (Stat path) changing same = absurd changing
looks_kept old new (Read path off len) changing same = absurd changing
looks_kept old new (Names path) changing same = absurd changing
looks_kept old new (Write path place bytes) changing same = tt
looks_kept old new (SetLength path len) changing same = tt
looks_kept old new (Create path mode) changing same = tt
looks_kept old new (Mkdir path mode) changing same = tt
looks_kept old new (Unlink path) changing same = tt
looks_kept old new (Rmdir path) changing same = tt
looks_kept old new (Rename from to) changing same = tt
looks_kept old new (Chmod path mode) changing same = tt
looks_kept old new (Chown path uid gid) changing same = tt
looks_kept old new (Chflags path flags) changing same = tt
looks_kept old new (SetLevel level) changing same = absurd changing
looks_kept old new Sync changing same = same

-- what holds, holds where no store was asked for changes
unasked_so : {P : Type 0} (resource : Resource) → P → OnUnasked (answers.Refused resource) P
unasked_so resources.NoMemory p = tt
unasked_so resources.NoSpace p = tt
unasked_so resources.NoInodes p = p
unasked_so resources.DirectoryFull p = p
unasked_so resources.JournalFull p = p

-- where a store refused changes, one was asked
was_asked : (P : Type 0) (refusal : StoreRefusal) → OnUnasked (answers.Refused (resource_of refusal)) P
was_asked P NoSpace = tt
was_asked P NoMemory = tt

module _ (level : Level) {s : StoreState} {caller : Caller} {request : Request} where
  -- a call that a rule denies
  pub denied : {new : StoreState} → new ≡ s → (denial : Denial)
      → InWorld s (λ w. w.level ≡ level → decide w caller request ≡ Some denial)
      → IsCallAt level s new caller request (Err (Denied denial))
  denied same denial is = record {
    outcome = is;
    leaves = λ w v. still same v;
    entries = tt;
    halted = same_content same;
    looks = looks_same request same;
    unasked = same;
    listed = λ h. absurd h;
    follows = follows_itself same;
  }

  -- a call for which a resource ran out, before anything changed
  pub lacking : {new : StoreState} → new ≡ s → (resource : Resource)
      → InWorld s (λ w. w.level ≡ level → IsOutcome s w caller request (answers.Refused resource))
      → IsCallAt level s new caller request (Err (Refused resource))
  lacking same resource is = record {
    outcome = is;
    leaves = λ w v. still same v;
    entries = tt;
    halted = same_content same;
    looks = looks_same request same;
    unasked = unasked_so resource same;
    listed = λ h. absurd h;
    follows = follows_itself same;
  }

  refused_as : (refusal : StoreRefusal) → MayRefuse s refusal → IsChanging request
      → (w : World) → IsToServe s caller request w
      → IsOutcome s w caller request (answers.Refused (resource_of refusal))
  refused_as NoSpace may changing w serve = ((serve.allowed, (serve.numbered, changing)), serve.roomy, may)
  refused_as NoMemory may changing w serve = (serve.allowed, serve.numbered, serve.roomy, inl (may, changing))

  -- a call whose changes the store refused, with what it may be answered
  pub refused_so : {mid new : StoreState} {P : Content → Type 0} → mid ≡ s → (refusal : StoreRefusal)
      → IsChanging request
      → InWorld s (λ w. w.level ≡ level → IsOutcome s w caller request (answers.Refused (resource_of refusal)))
      → ChangesTo mid P (Err refusal) new → IsCallAt level s new caller request (Err (Refused (resource_of refusal)))
  refused_so {new = new} same refusal changing is change =
      let kept = change.err ∙ same_content same in
      record {
        outcome = is;
        leaves = λ w v. record { shows = subst (λ (c : Content). Shows c w) (sym kept) v.shows; tree = v.tree };
        entries = tt;
        halted = kept;
        looks = looks_kept s new request changing kept;
        unasked = was_asked (new ≡ s) refusal;
        listed = λ h. absurd h;
        follows = follows_same same change.follows;
      }

  -- a call whose changes the store refused
  pub refused : {mid new : StoreState} {P : Content → Type 0} → mid ≡ s → (refusal : StoreRefusal) → IsChanging request
      → InWorld s (λ w. w.level ≡ level → IsToServe s caller request w)
      → ChangesTo mid P (Err refusal) new → IsCallAt level s new caller request (Err (Refused (resource_of refusal)))
  refused same refusal changing serve change =
      let may = subst (λ (x : StoreState). MayRefuse x refusal) same change.refused in
      refused_so same refusal changing (λ w v at. refused_as refusal may changing w (serve w v at)) change

  -- a call that changes nothing and shows something
  pub shown : {new : StoreState} → new ≡ s → (shows : Served)
      → InWorld s (λ w. w.level ≡ level → IsToServe s caller request w)
      → InWorld s (λ w. shows ≡ answer_of w request) → ((w : World) → effect s.shape.numbers w caller request ≡ w)
      → ((w : World) → LeavesEntries request s.content s.content w.rows)
      → IsCallAt level s new caller request (Ok shows)
  shown {new = new} same shows serve is stays entries = record {
    outcome = λ w v at. let x = serve w v at in ((x.allowed, x.numbered, is w v), x.roomy);
    leaves = λ w v. subst (IsVolume new) (sym (stays w)) (still same v);
    entries = λ w v. subst (λ (c : Content). LeavesEntries request s.content c w.rows) (sym (same_content same))
        (entries w);
    halted = tt;
    looks = looks_same request same;
    unasked = tt;
    listed = λ h. same_content same;
    follows = follows_itself same;
  }

  -- a call that changes files, with what it may be answered
  pub done_so : {mid new : StoreState} → mid ≡ s → LooksOn request s new
      → InWorld s (λ w. w.level ≡ level → IsOutcome s w caller request (answers.Served Done))
      → InWorld s (λ w. IsVolume new (effect s.shape.numbers w caller request))
      → InWorld s (λ w. LeavesEntries request s.content new.content w.rows) → Follows mid new
      → IsCallAt level s new caller request (Ok Done)
  done_so same looks is leaves entries follows = record {
    outcome = is;
    leaves = leaves;
    entries = entries;
    halted = tt;
    looks = looks;
    unasked = tt;
    listed = λ h. absurd h;
    follows = follows_same same follows;
  }

  -- a call that changes files
  pub done : {mid new : StoreState} → mid ≡ s → LooksOn request s new
      → InWorld s (λ w. w.level ≡ level → IsToServe s caller request w)
      → ((w : World) → Done ≡ answer_of w request)
      → InWorld s (λ w. IsVolume new (effect s.shape.numbers w caller request))
      → InWorld s (λ w. LeavesEntries request s.content new.content w.rows) → Follows mid new
      → IsCallAt level s new caller request (Ok Done)
  done same looks serve is = done_so same looks
      (λ w v at. let x = serve w v at in ((x.allowed, x.numbered, is w), x.roomy))
