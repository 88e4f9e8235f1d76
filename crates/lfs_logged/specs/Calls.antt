-- What calls of such a volume come to.
use Rattle.std.specs.Prelude.{◌≡◌, ◌↔◌, ◌<◌, length}
use Rattle.lfs_types.specs.Caller.{Caller}
use Rattle.lfs_types.specs.declared.answer.Answer.{Answer}
use Rattle.lfs_types.specs.declared.answer.Resource.TheVariants.{JournalFull}
use Rattle.lfs_types.specs.declared.cleaner.CleanerCall.{CleanerCall}
use Rattle.lfs_types.specs.declared.request.Request.{Request}
use Rattle.lfs_model.specs.declared.journal.CleanerAnswer.{CleanerAnswer}
use Rattle.lfs_model.specs.declared.journal.CleanerAnswer.TheVariants.{Refused}
use Rattle.lfs_volume.specs.CallRuns.{IsCallAsked}
use Rattle.lfs_volume.specs.Cleanings.{Cleaner, CleansOnly, IsCleanerAnswer, cleaner_of}
use Rattle.lfs_volume.specs.Journals.{Since, Stays}
use Rattle.lfs_volume.specs.Seen.{Seen}
use Rattle.lfs_durable_store.specs.Answering.{ComesTo}
use Rattle.lfs_durable_store.specs.CleanerCalls.{durable_calls}
use Rattle.lfs_durable_store.specs.Keeping.{Durably, IsSettled, durable_state}

-- the durable store, as a kind of store
abbrev pub durable_cleaner : Cleaner Durably
durable_cleaner = cleaner_of durable_state IsSettled ComesTo durable_calls

-- a user's call was made on the volume's store behind its journal, wherever that began
abbrev pub IsLoggedCall : Seen Durably → Caller → Request → Answer → Seen Durably → Type 0
IsLoggedCall old caller request answer new = Since (durable_state old.since) old.since_level (λ from.
    IsCallAsked durable_state IsSettled ComesTo old.limit from old.journal old.store caller request answer new.store)

-- A cleaner's call was answered so: JournalFull exactly where the journal has its limit, and then the volume is as before,
-- else as the store's call answers. Content and level stay.
pub record IsLoggedCleaning (old : Seen Durably) (caller : Caller) (call : CleanerCall) (answer : CleanerAnswer)
    (new : Seen Durably) : Type 0 where
  pub full : (answer ≡ Refused JournalFull) ↔ (length old.journal ≡ old.limit)
  pub at_limit : length old.journal ≡ old.limit → new ≡ old
  pub answered : length old.journal < old.limit
      → IsCleanerAnswer durable_cleaner old.store caller call answer new.store
  pub stays : Stays (durable_state old.store) (durable_state new.store) old.level new.level
  pub cleans : CleansOnly answer (durable_state old.store) (durable_state new.store)
