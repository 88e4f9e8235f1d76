-- What the calls of the cleaner of a durable store may answer.
use Rattle.std.specs.Prelude.{◌≡◌, ℕ, List, Result}
use Rattle.lfs_types.specs.Cleaned.{CleanerCalls}
use Rattle.lfs_types.specs.declared.cleaner.BlockInfo.{BlockInfo}
use Rattle.lfs_types.specs.declared.cleaner.CleanFault.{CleanFault}
use Rattle.lfs_logstore.specs.Cleaning.{GivesAddresses, GivesIfile, GivesInfos, Reclaims as LogReclaims}
use Rattle.lfs_logstore.specs.Gaining.{GainsRoom as LogGains}
use Rattle.lfs_logstore.specs.Marking.{WritesAgain as LogWrites}
use Rattle.lfs_durable_store.specs.Keeping.{Durably, settled}

-- Blocks are written again as over a log, or not, and the store is its own base.
pub record WritesAgain (old : Durably) (marks : List BlockInfo) (result : Result ℕ CleanFault) (new : Durably) : Type 0 where
  pub log : LogWrites old.store marks result new.store
  pub base : new ≡ settled new.mark.turn new.store

-- A segment is made clean as over a log, or not, and the base stays, with what is told of it.
pub record Reclaims (old : Durably) (segment : ℕ) (result : Result (Unit {0}) CleanFault) (new : Durably) : Type 0 where
  pub log : LogReclaims old.store segment result new.store
  pub base : new.base ≡ old.base
  pub mark : new.mark ≡ old.mark

-- Room is gained as over a log, or not, and the store is its own base.
pub record GainsRoom (old : Durably) (result : Result (Unit {0}) CleanFault) (new : Durably) : Type 0 where
  pub log : LogGains old.store result new.store
  pub base : new ≡ settled new.mark.turn new.store

-- the relation of each call
abbrev pub durable_calls : CleanerCalls Durably
durable_calls = record {
  gives_ifile = λ s. GivesIfile s.store;
  gives_infos = λ s. GivesInfos s.store;
  gives_addresses = λ s. GivesAddresses s.store;
  writes_again = WritesAgain;
  reclaims = Reclaims;
  gains = GainsRoom;
}
