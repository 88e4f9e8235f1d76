-- Runs of calls with one more: `AreMadeSo-append` for `Volume::run`, `AreAnswers-append` for lfs_mount, and `call_made`
-- for whoever makes a call of a volume. Each call of a run is made behind the journal that those before it left, so a
-- further one is one behind the first journal with all that they entered. By induction on the calls each puts its entry
-- behind the journal, and in the end all of them stand there in order (`append_assoc`). `call_made` turns what a call
-- promises of the volume into what it says of the store.
use Rattle.std.proofs.Common.{◌≡◌, ◌↔◌, ℕ, ◌<◌, List, [], ◌∷◌, ◌++◌, length, refl, sym, ap, subst, append_assoc}
use Rattle.std.proofs.Common.{append-nil}
use Rattle.lfs_types.specs.Caller.{Caller}
use Rattle.lfs_types.specs.StoreStates.{Follows, MovesBase, StoreState}
use Rattle.lfs_types.specs.Tree.{World}
use Rattle.lfs_types.specs.declared.answer.Answer.{Answer}
use Rattle.lfs_types.specs.declared.answer.Answer.TheVariants.{Served, Refused}
use Rattle.lfs_types.specs.declared.answer.Resource.TheVariants.{JournalFull}
use Rattle.lfs_types.specs.declared.answer.Served.TheVariants.{Done}
use Rattle.lfs_types.specs.declared.request.Request.{Request}
use Rattle.lfs_types.specs.declared.request.Request.TheVariants.{Sync}
use Rattle.lfs_model.specs.declared.journal.Call.{Call}
use Rattle.lfs_model.specs.declared.journal.Entry.{Entry}
use Rattle.lfs_model.specs.Runs.{IsUnserved, kept, kept_entry}
use Rattle.lfs_model.specs.Steps.{world_after}
use Rattle.lfs_calls.specs.Calls.{LooksOn, OnUnasked}
use Rattle.lfs_calls.specs.Entries.{LeavesEntries, OnServed}
use Rattle.lfs_calls.specs.Outcomes.{IsOutcome}
use Rattle.lfs_calls.specs.Volumes.{IsVolume}
use Rattle.lfs_volume.specs.CallRuns.{AreAnswers, AreMadeSo, IsCallMade}
use Rattle.lfs_volume.specs.Journals.{Stays}
use Rattle.lfs_volume.specs.Seen.{Seen}

-- a call of a volume, as it was made on its store
pub call_made : {F : Type 0} (state : F → StoreState) (is_flushed : F → Type 0) (from : World) (old new : Seen F)
    (caller : Caller) (request : Request) (answer : Answer)
    → ((answer ≡ Refused JournalFull) ↔ (length old.journal ≡ old.limit))
    → (length old.journal ≡ old.limit → new ≡ old)
    → IsVolume (state old.store) (world_after (state old.store).shape.numbers old.journal from)
    → (length old.journal < old.limit → IsOutcome (state old.store)
    (world_after (state old.store).shape.numbers old.journal from) caller request answer)
    → OnServed answer (LeavesEntries request (state old.store).content (state new.store).content
    (world_after (state old.store).shape.numbers old.journal from).rows)
    → (IsUnserved answer → Stays (state old.store) (state new.store) old.level new.level)
    → LooksOn request (state old.store) (state new.store)
    → OnUnasked answer (state new.store ≡ state old.store)
    → (request ≡ Sync → answer ≡ Served Done → is_flushed new.store)
    → Follows (state old.store) (state new.store)
    → MovesBase (state old.store) (state new.store)
    → IsCallMade state is_flushed old.limit from old.journal old.store caller request answer new.store
call_made {F} state is_flushed from old new caller request answer full at_limit shown outcome entries unserved looks
    unasked synced follows base = record {
      full = full;
      at_limit = λ h. ap (λ (v : Seen F). v.store) (at_limit h);
      shown = shown;
      outcome = outcome;
      entries = entries;
      unserved = λ h. (unserved h).content;
      looks = looks;
      unasked = unasked;
      synced = synced;
      follows = follows;
      base = base;
    }

-- one more call was made
pub AreMadeSo-append : {F : Type 0} (Is : List Entry → F → Call → Answer → F → Type 0) (journal : List Entry)
    (first last next : F) (calls : List Call) (answers : List Answer) (call : Call) (answer : Answer)
    → AreMadeSo Is journal first calls answers last
    → Is (journal ++ kept calls answers) last call answer next
    → AreMadeSo Is journal first (calls ++ call ∷ []) (answers ++ answer ∷ []) next
AreMadeSo-append {F} Is journal first last next [] [] call answer are made = (
  next,
  subst (λ (s : F). Is journal s call answer next) are
      (subst (λ (j : List Entry). Is j last call answer next) (append-nil journal) made),
  refl,
)
AreMadeSo-append Is journal first last next [] (a ∷ answers) call answer are made = absurd are
AreMadeSo-append Is journal first last next (c ∷ calls) [] call answer are made = absurd are
AreMadeSo-append Is journal first last next (c ∷ calls) (a ∷ answers) call answer are made =
    let entry = kept_entry c.session c.cred c.request a in (
      are.0,
      are.1,
      AreMadeSo-append Is (journal ++ entry) are.0 last next calls answers call answer are.2
          (subst (λ (j : List Entry). Is j last call answer next) (sym (append_assoc journal entry (kept calls answers)))
          made),
    )

-- one more call was answered
pub AreAnswers-append : {F : Type 0} (state : F → StoreState) (is_flushed : F → Type 0) (limit : ℕ) (from : World)
    (journal : List Entry) (first last next : F) (calls : List Call)
    (answers : List Answer) (call : Call) (answer : Answer)
    → AreAnswers state is_flushed limit from journal first calls answers last
    → IsCallMade state is_flushed limit from (journal ++ kept calls answers) last call.cred call.request answer next
    → AreAnswers state is_flushed limit from journal first (calls ++ call ∷ []) (answers ++ answer ∷ []) next
AreAnswers-append {F} state is_flushed limit from journal first last next calls answers call answer are made =
    AreMadeSo-append (λ (before : List Entry) (this : F) (one : Call) (told : Answer) (left : F).
    IsCallMade state is_flushed limit from before this one.cred one.request told left)
    journal first last next calls answers call answer are made
