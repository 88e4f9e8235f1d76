-- An answered call of the cleaner is a step: `IsStep-cleaned` for `Volume::clean` and `reclaim`, `answered_done` for
-- `cleaning::cleaned`. The content stays, so the store shows the world that it showed; the shape stays by whatever
-- answer (`shape_stays`), and no more segments are clean than the outcome allows. The superuser is answered what the
-- store gave: the store denies nothing (`not_denied`), and lacks memory in one call alone, for the bytes of the ifile
-- (`lacked`).
use Rattle.std.proofs.Common.{◌≡◌, ℕ, ◌+◌, ◌≤◌, List, Some, inr, refl, sym, subst}
use Rattle.std.specs.Prelude.{IfSome}
use Rattle.lfs_types.specs.Caller.{Caller}
use Rattle.lfs_types.specs.Cleaned.{with_clean_segment}
use Rattle.lfs_types.specs.StoreStates.{MovesBase, StoreState}
use Rattle.lfs_types.specs.Tree.{World}
use Rattle.lfs_types.specs.declared.answer.Resource.TheVariants.{NoMemory, NoSpace, NoInodes, DirectoryFull}
use Rattle.lfs_types.specs.declared.answer.Resource.TheVariants.{JournalFull}
use Rattle.lfs_types.specs.declared.cleaner.CleanerCall.{CleanerCall}
use Rattle.lfs_types.specs.declared.cleaner.CleanerCall.TheVariants as calls
use Rattle.lfs_types.specs.declared.level.Level.{Level}
use Rattle.lfs_types.specs.declared.rule.Denial.{Denial}
use Rattle.lfs_model.specs.declared.journal.CleanerAnswer.{CleanerAnswer}
use Rattle.lfs_model.specs.declared.journal.CleanerAnswer.TheVariants.{Refused, Denied, Fault, Ifile, Infos, Bmapv}
use Rattle.lfs_model.specs.declared.journal.CleanerAnswer.TheVariants.{Marked, Cleaned, Gained}
use Rattle.lfs_model.specs.declared.journal.CleanerOutcome.{CleanerOutcome}
use Rattle.lfs_model.specs.declared.journal.Entry.{Entry}
use Rattle.lfs_model.specs.declared.journal.Event.TheVariants.{Cleaner}
use Rattle.lfs_model.specs.Cleaning.{IsCleaning, kind_of}
use Rattle.lfs_model.specs.Runs.{act_of, cleans, outcome_of}
use Rattle.lfs_model.specs.Steps.{world_after}
use Rattle.lfs_calls.specs.Content.{Shows}
use Rattle.lfs_calls.proofs.BaseLemmas.{same_told}
use Rattle.lfs_volume.specs.Cleanings.{Cleaner as Store, CleansOnly, IsCleaned, IsCleanerAnswer, IsDone}
use Rattle.lfs_volume.specs.Cleanings.{MayWantMemory}
use Rattle.lfs_volume.specs.Journals.{IsJournal, IsStep}

-- the shape stays, whatever the answer
pub shape_stays : (answer : CleanerAnswer) (old new : StoreState) → CleansOnly answer old new → new.shape ≡ old.shape
shape_stays (Refused resource) old new h = h.shape
shape_stays (Denied denial) old new h = h.shape
shape_stays (Fault fault) old new h = h.shape
shape_stays (Ifile bytes) old new h = h.shape
shape_stays (Infos infos) old new h = h.shape
shape_stays (Bmapv infos) old new h = h.shape
shape_stays (Marked count) old new h = h.shape
shape_stays Cleaned old new h = cc
shape_stays Gained old new h = h.shape

-- no call that is made is denied
not_denied : {F : Type 0} (r : Store F) (old new : F) (call : CleanerCall) (denial : Denial)
    → IsDone r old call (Denied denial) new → ⊥
not_denied r old new calls.Ifile denial h = h
not_denied r old new (calls.Infos segment) denial h = h
not_denied r old new (calls.Bmapv infos) denial h = h
not_denied r old new (calls.Markv marks) denial h = h
not_denied r old new (calls.Segclean segment) denial h = h
not_denied r old new calls.Gain denial h = h

-- of the calls that the store answers only the one for the ifile's bytes lacks memory
lacked : {F : Type 0} (r : Store F) (old new : F) (caller : Caller) (call : CleanerCall) → caller.uid ≡ 0
    → IsDone r old call (Refused NoMemory) new → MayWantMemory caller call × (new ≡ old)
lacked r old new caller calls.Ifile is h = (inr (is, refl), h)
lacked r old new caller (calls.Infos segment) is h = absurd h
lacked r old new caller (calls.Bmapv infos) is h = absurd h
lacked r old new caller (calls.Markv marks) is h = absurd h
lacked r old new caller (calls.Segclean segment) is h = absurd h
lacked r old new caller calls.Gain is h = absurd h

-- what the store's call gave is the superuser's answer
pub answered_done : {F : Type 0} (r : Store F) (old : F) (caller : Caller) (call : CleanerCall) (answer : CleanerAnswer)
    (new : F)
    → caller.uid ≡ 0 → IsDone r old call answer new → IsCleanerAnswer r old caller call answer new
answered_done r old caller call (Refused NoMemory) new is h = lacked r old new caller call is h
answered_done r old caller call (Refused NoSpace) new is h = (is, h)
answered_done r old caller call (Refused NoInodes) new is h = (is, h)
answered_done r old caller call (Refused DirectoryFull) new is h = (is, h)
answered_done r old caller call (Refused JournalFull) new is h = (is, h)
answered_done r old caller call (Denied denial) new is h = absurd (not_denied r old new call denial h)
answered_done r old caller call (Fault fault) new is h = (is, h)
answered_done r old caller call (Ifile bytes) new is h = (is, h)
answered_done r old caller call (Infos infos) new is h = (is, h)
answered_done r old caller call (Bmapv infos) new is h = (is, h)
answered_done r old caller call (Marked count) new is h = (is, h)
answered_done r old caller call Cleaned new is h = (is, h)
answered_done r old caller call Gained new is h = (is, h)

pub IsStep-cleaned : (from : World) (old new : StoreState) (level : Level) (es : List Entry) (limit : ℕ)
    (caller : Caller) (call : CleanerCall) (answer : CleanerAnswer)
    (outcome : CleanerOutcome) → IsJournal from old level es limit → IsCleaned old new caller call answer
    → outcome_of answer ≡ Some outcome
    → IsStep old new level (world_after old.shape.numbers es from) caller (Cleaner (act_of call) outcome)
IsStep-cleaned from old new level es limit caller call answer outcome j is comes = record {
  happens = subst (λ o. IfSome o (IsCleaning old.shape.numbers old.shape.segments caller (kind_of (act_of call))))
      comes is.outcome;
  leaves = record {
    shows = subst (λ c. Shows c (world_after old.shape.numbers es from)) (sym is.content) j.shown.shows;
    tree = j.shown.tree;
  };
  leveled = j.at_level;
  space = λ no. absurd no;
  clean = λ none. subst (λ o. IfSome o (λ (x : CleanerOutcome). new.clean ≤ old.clean + cleans (Cleaner (act_of call) x)))
      comes (is.told none);
  shape = shape_stays answer old new is.leaves;
}

-- a segment that was made clean leaves the base
pub reclaimed_base : (old new : StoreState) → new ≡ with_clean_segment old → MovesBase old new
reclaimed_base old new same = subst (MovesBase old) (sym same) (same_told old.content old.content old.base)
