-- What the calls of the cleaner of a durable store on a disk may answer.
use Rattle.std.specs.Prelude.{◌≡◌, ℕ, zero, suc, List, Result, Err, None, IsSome, OnErr, OnOk, ⊤, ◌⊎◌, ◌<◌}
use Rattle.std.proofs.Common.{inl, inr}
use Rattle.lfs_types.specs.Cleaned.{CleanerCalls}
use Rattle.lfs_types.specs.StoreStates.{Follows}
use Rattle.lfs_types.specs.declared.cleaner.BlockInfo.{BlockInfo}
use Rattle.lfs_types.specs.declared.cleaner.CleanFault.{CleanFault}
use Rattle.lfs_types.specs.declared.cleaner.CleanFault.TheVariants.{NoSpace, NotGainful}
use Rattle.lfs_durable.specs.Runs.{IsCounted}
use Rattle.lfs_parts.specs.Files.{content_of}
use Rattle.lfs_segwrite.specs.Gaining.{IsGainful, NoneIsGainful}
use Rattle.lfs_logstore.specs.Cleaning.{GivesAddresses, GivesIfile, GivesInfos}
use Rattle.lfs_durable_store.specs.Answering as durable
use Rattle.lfs_durable_store.specs.CleanerCalls as calls
use Rattle.lfs_durable_store.specs.Keeping.{Durably, settled}
use Rattle.lfs_disk_store.specs.Answering.{SettlesInPlace}
use Rattle.lfs_disk_store.specs.Finding.{LeavesOne}
use Rattle.lfs_disk_store.specs.Keeping.{IsRefused, KeepsDisk, OnDisk, disk_state}

-- The disk hadn't failed. What waited was written first, in what the active segment had left. Then blocks were written
-- again as over a durable store, or not. Each went out to the disk.
pub record WritesOut {D : Type 0} (time : D → ℕ) (left_since : D → ℕ → List (List ℕ) → Type 0) (old : OnDisk D)
    (marks : List BlockInfo) (result : Result ℕ CleanFault) (new : OnDisk D) : Type 0 where
  pub sound : old.fault ≡ None
  pub between : Durably
  pub settles : durable.SettlesInPlace old.store between
  pub again : calls.WritesAgain between marks result new.store
  pub content : content_of new.store.store ≡ content_of old.store.store
  pub crash : LeavesOne time left_since (IsCounted between.store) old new

-- so, or the disk had failed, and none was written
abbrev pub WritesAgain : {D : Type 0} (time : D → ℕ) (left_since : D → ℕ → List (List ℕ) → Type 0) → OnDisk D
    → List BlockInfo → Result ℕ CleanFault → OnDisk D → Type 0
WritesAgain time left_since old marks result new =
    (IsRefused old new × (result ≡ Err NoSpace)) ⊎ WritesOut time left_since old marks result new

-- the last serial hadn't come as what waited was written in such a call
abbrev pub IsCountedBetween : {D : Type 0} (time : D → ℕ) (left_since : D → ℕ → List (List ℕ) → Type 0) (old : OnDisk D)
    (marks : List BlockInfo) (result : Result ℕ CleanFault) (new : OnDisk D)
    → WritesAgain time left_since old marks result new → Type 0
IsCountedBetween time left_since old marks result new (inl refused) = ⊤
IsCountedBetween time left_since old marks result new (inr out) = IsCounted out.between.store

-- A segment is made clean as over a durable store, or not. No block changes, and the disk stays.
pub record Reclaims {D : Type 0} (old : OnDisk D) (segment : ℕ) (result : Result (Unit {0}) CleanFault)
    (new : OnDisk D) : Type 0 where
  pub reclaims : calls.Reclaims old.store segment result new.store
  pub disk : KeepsDisk old new

-- Behind calls that led from one state to another one more was made, which wrote blocks again, or was refused.
pub record MarksOnce {D : Type 0} (time : D → ℕ) (left_since : D → ℕ → List (List ℕ) → Type 0)
    (Before : OnDisk D → OnDisk D → Type 0) (old new : OnDisk D) : Type 0 where
  pub last : OnDisk D
  pub before : Before old last
  pub marks : List BlockInfo
  pub result : Result ℕ CleanFault
  pub again : WritesAgain time left_since last marks result new

-- so many such calls were made, one after another
unfoldable pub MarksInTurn : {D : Type 0} (time : D → ℕ) (left_since : D → ℕ → List (List ℕ) → Type 0) → ℕ
    → OnDisk D → OnDisk D → Type 0
MarksInTurn time left_since zero old new = new ≡ old
MarksInTurn time left_since (suc k) old new =
    MarksOnce time left_since (MarksInTurn time left_since k) old new

-- the last serial hadn't come before each of them, nor as what waited was written in it
unfoldable pub AreCounted : {D : Type 0} (time : D → ℕ) (left_since : D → ℕ → List (List ℕ) → Type 0) (k : ℕ)
    (old new : OnDisk D) → MarksInTurn time left_since k old new → Type 0
unfolding MarksInTurn
AreCounted time left_since zero old new turn = ⊤
AreCounted time left_since (suc k) old new turn =
    AreCounted time left_since k old turn.last turn.before × IsCounted turn.last.store.store
    × IsCountedBetween time left_since turn.last turn.marks turn.result new turn.again

-- Such calls were made, from a store on that was its own base; so it is still.
pub record MarksEights {D : Type 0} (time : D → ℕ) (left_since : D → ℕ → List (List ℕ) → Type 0)
    (old new : OnDisk D) : Type 0 where
  pub turns : ℕ
  pub marks : MarksInTurn time left_since turns old new
  pub own : new.store ≡ settled new.store.mark.turn new.store.store
  pub content : content_of new.store.store ≡ content_of old.store.store
  pub follows : Follows (disk_state old) (disk_state new)

-- What waited was written, and then blocks were written again, some at a time; each went out to the disk. Room is gained
-- where a segment was made clean then; else all is as it was when these calls ended, and none was made only where no segment
-- was gainful, or the disk failed before.
pub record GainsOut {D : Type 0} (time : D → ℕ) (left_since : D → ℕ → List (List ℕ) → Type 0) (old : OnDisk D)
    (result : Result (Unit {0}) CleanFault) (new : OnDisk D) : Type 0 where
  pub synced : OnDisk D
  pub settles : SettlesInPlace time left_since old synced
  pub turns : ℕ
  pub emptied : OnDisk D
  pub marks : MarksInTurn time left_since turns synced emptied
  pub gained : OnOk result ((segment : ℕ) × IsGainful synced.store.store segment
      × Reclaims emptied segment result new)
  pub full : OnErr result (new ≡ emptied)
  pub tried : OnErr result (IsSome synced.fault ⊎ (NoneIsGainful synced.store.store ⊎ (0 < turns)))
  pub crash : LeavesOne time left_since (IsCounted synced.store.store
      × AreCounted time left_since turns synced emptied marks) old new

-- so, or the disk had failed, and no room was gained
abbrev pub GainsRoom : {D : Type 0} (time : D → ℕ) (left_since : D → ℕ → List (List ℕ) → Type 0) → OnDisk D
    → Result (Unit {0}) CleanFault → OnDisk D → Type 0
GainsRoom time left_since old result new =
    (IsRefused old new × (result ≡ Err NotGainful)) ⊎ GainsOut time left_since old result new

-- the relation of each call
abbrev pub disk_calls : {D : Type 0} (time : D → ℕ) (left_since : D → ℕ → List (List ℕ) → Type 0)
    → CleanerCalls (OnDisk D)
disk_calls time left_since = record {
  gives_ifile = λ s. GivesIfile s.store.store;
  gives_infos = λ s. GivesInfos s.store.store;
  gives_addresses = λ s. GivesAddresses s.store.store;
  writes_again = WritesAgain time left_since;
  reclaims = Reclaims;
  gains = GainsRoom time left_since;
}
