-- That a volume is saved.
use Rattle.std.specs.Prelude.{◌≡◌, ◌≢◌, ◌⊎◌, ℕ, false, List, [], ◌∷◌, codes}
use Rattle.lfs_types.specs.declared.answer.Answer.{Answer}
use Rattle.lfs_types.specs.declared.answer.Answer.TheVariants.{Served}
use Rattle.lfs_types.specs.declared.answer.Served.TheVariants.{Done}
use Rattle.lfs_types.specs.declared.request.Request.TheVariants.{Sync}
use Rattle.lfs_volume.specs.Cleanings.{Cleaner}
use Rattle.lfs_volume.specs.Seen.{Seen}
use Rattle.lfs_browse.specs.Asking.{Asks}
use Rattle.lfs_audit.specs.declared.asker.Asker.{Asker}
use Rattle.lfs_live.specs.Talkers.{Talker}
use Rattle.lfs_hearing.specs.FaultLines.{fault_line}
use Rattle.lfs_hearing.specs.declared.fault.LineFault.{LineFault}
use Rattle.lfs_hearing.specs.declared.fault.LineFault.TheVariants.{NoImage, Unsynced, Unsaved}

-- the superuser, in session 0
abbrev pub superuser : Asker
superuser = record { session = 0; cred = record { uid = 0; groups = 0 ∷ []; init = false } }

-- a Sync of the superuser was made and entered, and answered so
abbrev pub Syncs : {F : Type 0} → Cleaner F → Seen F → Seen F → Answer → Type 0
Syncs r old new answer = Asks r old new superuser (Sync ∷ []) (answer ∷ [])

-- the line of this number has a fault, whose line is told, with why
abbrev pub IsFaultTold : ℕ → LineFault → List ℕ → Type 0
IsFaultTold number fault told = (why : List ℕ) × (told ≡ fault_line number fault why)

-- The Sync is done, nothing waits behind it, and store and level are kept, which is told.
pub record IsKeptNow {F : Type 0} (r : Talker F) (new : Seen F) (answer : Answer) (told : List ℕ) : Type 0 where
  pub done : answer ≡ Served Done
  pub flushed : r.cleaner.is_flushed new.store
  pub kept : r.kept new.store new.level
  pub is : told ≡ codes "saved\n"

-- A volume was to be saved, by the line of this number. There is no file for it, and it stays as it is; or a Sync was
-- made, and then the volume is kept, or the Sync was not done, or the volume isn't kept. Which of these, is told.
abbrev pub Saves : {F : Type 0} → Talker F → ℕ → Seen F → Seen F → List ℕ → Type 0
Saves r number old new told =
    ((new ≡ old) × IsFaultTold number NoImage told)
    ⊎ ((answer : Answer) × Syncs r.cleaner old new answer × (IsKeptNow r new answer told
    ⊎ (((answer ≢ Served Done) × IsFaultTold number Unsynced told) ⊎ IsFaultTold number Unsaved told)))
