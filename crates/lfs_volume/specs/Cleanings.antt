-- What a cleaner's call is answered over a store, and how it leaves the store.
use Rattle.std.specs.Prelude.{◌≡◌, ◌≢◌, ◌⊎◌, ◌+◌, ◌^◌, ◌<◌, ◌≤◌, false, List, Option, None, Some, Result, Ok, Err, IfSome}
use Rattle.std.specs.Prelude.{length}
use Rattle.lfs_types.specs.Caller.{Caller}
use Rattle.lfs_types.specs.Cleaned.{CleanerCalls, with_clean_segment}
use Rattle.lfs_types.specs.StoreStates.{Follows, StoreState}
use Rattle.lfs_types.specs.declared.answer.Resource.TheVariants.{JournalFull, NoMemory}
use Rattle.lfs_types.specs.declared.cleaner.BlockInfo.{BlockInfo}
use Rattle.lfs_types.specs.declared.cleaner.CleanerCall.{CleanerCall}
use Rattle.lfs_types.specs.declared.cleaner.CleanerCall.TheVariants as call
use Rattle.lfs_types.specs.declared.rule.Denial.{Denial}
use Rattle.lfs_types.specs.declared.rule.Rule.TheVariants.{IsSuperuser}
use Rattle.lfs_types.specs.declared.store.Change.{Change}
use Rattle.lfs_types.specs.declared.store.Reserve.{Reserve}
use Rattle.lfs_types.specs.declared.store.StoreRefusal.{StoreRefusal}
use Rattle.lfs_model.specs.declared.journal.CleanerAnswer.{CleanerAnswer}
use Rattle.lfs_model.specs.declared.journal.CleanerAnswer.TheVariants.{Refused, Denied, Fault, Ifile, Infos, Bmapv}
use Rattle.lfs_model.specs.declared.journal.CleanerAnswer.TheVariants.{Marked, Cleaned, Gained}
use Rattle.lfs_model.specs.declared.journal.CleanerOutcome.{CleanerOutcome}
use Rattle.lfs_model.specs.declared.journal.CleanerOutcome.TheVariants as outcomes
use Rattle.lfs_model.specs.declared.journal.Event.TheVariants.{Cleaner as Cleaning}
use Rattle.lfs_model.specs.Cleaning.{IsCleaning, kind_of}
use Rattle.lfs_model.specs.Memory.{HandsIn}
use Rattle.lfs_model.specs.Runs.{act_of, cleans, outcome_of}

-- a kind of store: the state that contracts see, that nothing waits, what changes come to, and what each call of its
-- cleaner may answer
pub record Cleaner (F : Type 0) : Type 1 where
  pub state : F → StoreState
  pub is_flushed : F → Type 0
  pub said : F → List Change → Reserve → Result (Unit {0}) StoreRefusal → F → Type 0
  pub calls : CleanerCalls F

-- such a kind of store, of its parts
abbrev pub cleaner_of : {F : Type 0} → (F → StoreState) → (F → Type 0)
    → (F → List Change → Reserve → Result (Unit {0}) StoreRefusal → F → Type 0) → CleanerCalls F → Cleaner F
cleaner_of state is_flushed said calls = record {
  state = state;
  is_flushed = is_flushed;
  said = said;
  calls = calls;
}

-- the denial of a cleaner's call
abbrev pub not_superuser : Denial
not_superuser = record { rule = IsSuperuser; path = 0; at = 0 }

-- A cleaner's call of the superuser may be answered so, from one store to another: as the store's call gives it. Of the
-- store's calls the one for the ifile's bytes alone may want memory. Those that only read leave the store as it was.
abbrev pub IsDone : {F : Type 0} → Cleaner F → F → CleanerCall → CleanerAnswer → F → Type 0
IsDone r old call.Ifile (Ifile bytes) new = r.calls.gives_ifile old bytes × (new ≡ old)
IsDone r old call.Ifile (Refused NoMemory) new = new ≡ old
IsDone r old (call.Infos segment) (Infos infos) new = r.calls.gives_infos old segment (Ok tt) infos × (new ≡ old)
IsDone r old (call.Infos segment) (Fault fault) new =
    ((infos : List BlockInfo) × r.calls.gives_infos old segment (Err fault) infos) × (new ≡ old)
IsDone r old (call.Bmapv infos) (Bmapv given) new = r.calls.gives_addresses old infos given × (new ≡ old)
IsDone r old (call.Markv marks) (Marked count) new = r.calls.writes_again old marks (Ok count) new
IsDone r old (call.Markv marks) (Fault fault) new = r.calls.writes_again old marks (Err fault) new
IsDone r old (call.Segclean segment) Cleaned new = r.calls.reclaims old segment (Ok tt) new
IsDone r old (call.Segclean segment) (Fault fault) new = r.calls.reclaims old segment (Err fault) new
IsDone r old call.Gain Gained new = r.calls.gains old (Ok tt) new
IsDone r old call.Gain (Fault fault) new = r.calls.gains old (Err fault) new
IsDone r old asked answer new = ⊥

-- a cleaner's call of this caller may want memory: anybody's for a copy of the infos that it hands in, the superuser's
-- for the bytes of the ifile
abbrev pub MayWantMemory : Caller → CleanerCall → Type 0
MayWantMemory caller asked = HandsIn asked ⊎ ((caller.uid ≡ 0) × (asked ≡ call.Ifile))

-- A cleaner's call of this caller may be answered so. Where there is memory for it, it is denied exactly where the
-- caller isn't the superuser; where there isn't, nothing is done.
abbrev pub IsCleanerAnswer : {F : Type 0} → Cleaner F → F → Caller → CleanerCall → CleanerAnswer → F → Type 0
IsCleanerAnswer r old caller call (Denied denial) new = (caller.uid ≢ 0) × (denial ≡ not_superuser) × (new ≡ old)
IsCleanerAnswer r old caller call (Refused NoMemory) new = MayWantMemory caller call × (new ≡ old)
IsCleanerAnswer r old caller call answer new = (caller.uid ≡ 0) × IsDone r old call answer new

-- the answer to a Segclean of which the journal tells this; of none there was no room in it
abbrev pub reclaim_answer : Option CleanerOutcome → CleanerAnswer
reclaim_answer None = Refused JournalFull
reclaim_answer (Some outcomes.Denied) = Denied not_superuser
reclaim_answer (Some (outcomes.Fault fault)) = Fault fault
reclaim_answer (Some (outcomes.Done count)) = Cleaned

-- how a cleaner's answer leaves a store: with one more clean segment where it made a segment clean, with at most one more
-- where room was gained, else as a later state
abbrev pub CleansOnly : CleanerAnswer → StoreState → StoreState → Type 0
CleansOnly Cleaned old new = new ≡ with_clean_segment old
CleansOnly Gained old new = Follows (with_clean_segment old) new
CleansOnly answer old new = Follows old new

-- a u32 counts the bytes of an ifile
abbrev pub IsCounted : CleanerAnswer → Type 0
IsCounted (Ifile bytes) = length bytes < 2 ^ 32
IsCounted answer = Unit {0}

-- a cleaner's call was answered so over a store: its outcome may come, the content stays, and, where no growth is refused
-- past a share, no more segments became clean than its event tells
pub record IsCleaned (old new : StoreState) (caller : Caller) (call : CleanerCall)
    (answer : CleanerAnswer) : Type 0 where
  pub outcome : IfSome (outcome_of answer)
      (IsCleaning old.shape.numbers old.shape.segments caller (kind_of (act_of call)))
  pub content : new.content ≡ old.content
  pub leaves : CleansOnly answer old new
  pub told : old.shape.has_share ≡ false
      → IfSome (outcome_of answer) (λ outcome. new.clean ≤ old.clean + cleans (Cleaning (act_of call) outcome))
  pub counted : IsCounted answer
