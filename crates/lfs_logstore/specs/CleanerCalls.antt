-- What the calls of the log store's cleaner may answer.
use Rattle.lfs_types.specs.Cleaned.{CleanerCalls}
use Rattle.lfs_parts.specs.declared.parts.Parts.{Parts}
use Rattle.lfs_logstore.specs.Cleaning.{GivesAddresses, GivesIfile, GivesInfos, Reclaims}
use Rattle.lfs_logstore.specs.Gaining.{GainsRoom}
use Rattle.lfs_logstore.specs.Marking.{WritesAgain}

-- the relation of each call
abbrev pub log_calls : CleanerCalls Parts
log_calls = record {
  gives_ifile = GivesIfile;
  gives_infos = GivesInfos;
  gives_addresses = GivesAddresses;
  writes_again = WritesAgain;
  reclaims = Reclaims;
  gains = GainsRoom;
}
