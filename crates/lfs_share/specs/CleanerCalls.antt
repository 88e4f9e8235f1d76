-- What the calls of the cleaner of a store with a share may answer.
use Rattle.std.specs.Prelude.{ℕ, List, Result, IfOk, OnErr}
use Rattle.lfs_types.specs.Cleaned.{CleanerCalls}
use Rattle.lfs_types.specs.declared.cleaner.BlockInfo.{BlockInfo}
use Rattle.lfs_types.specs.declared.cleaner.CleanFault.{CleanFault}
use Rattle.lfs_segwrite.specs.Finishing.{MarksAgain}
use Rattle.lfs_parts.specs.declared.parts.Parts.{Parts}
use Rattle.lfs_parts.specs.Store.{IsFlushed}
use Rattle.lfs_logstore.specs.Cleaning.{GivesAddresses, GivesIfile, GivesInfos, Reclaims}
use Rattle.lfs_logstore.specs.Gaining.{GainsRoom}
use Rattle.lfs_share.specs.Answering.{MakesRoom, shared_state}
use Rattle.lfs_share.specs.Share.{IsWithinShare}

-- Room was made, and then all the blocks were written again that are named with their present address, which are
-- counted. That is never refused.
pub record WritesAgain (old : Parts) (marks : List BlockInfo) (result : Result ℕ CleanFault)
    (new : Parts) : Type 0 where
  pub between : Parts
  pub room : MakesRoom old between
  pub marked : IfOk result (λ count. MarksAgain marks count between new)
  pub never : OnErr result ⊥
  pub flushed : IsFlushed new
  pub within : IsWithinShare (shared_state new)

-- the relation of each call
abbrev pub shared_calls : CleanerCalls Parts
shared_calls = record {
  gives_ifile = GivesIfile;
  gives_infos = GivesInfos;
  gives_addresses = GivesAddresses;
  writes_again = WritesAgain;
  reclaims = Reclaims;
  gains = GainsRoom;
}
