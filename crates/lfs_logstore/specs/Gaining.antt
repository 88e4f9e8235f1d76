-- A segment is cleaned for a gain of room.
use Rattle.std.specs.Prelude.{ℕ, ◌<◌, Result, OnErr, OnOk}
use Rattle.lfs_types.specs.declared.cleaner.CleanFault.{CleanFault}
use Rattle.lfs_parts.specs.declared.parts.Parts.{Parts}
use Rattle.lfs_parts.specs.Store.{IsFlushed}
use Rattle.lfs_segwrite.specs.Applying.{WritesWaiting}
use Rattle.lfs_segwrite.specs.Gaining.{Empties, IsGainful, NoneIsGainful, space}
use Rattle.lfs_logstore.specs.Cleaning.{IsReclaimed}

-- What waited was written. A segment that was gainful then was emptied, and made clean; after that there is more room
-- than before.
pub record GainsSpace (old new : Parts) : Type 0 where
  pub between : Parts
  pub written : WritesWaiting old between
  pub segment : ℕ
  pub gainful : IsGainful between segment
  pub emptied : Parts
  pub empties : Empties segment between emptied
  pub reclaimed : IsReclaimed emptied segment new
  pub more : space between < space new

-- What waited was written; then a segment was cleaned for a gain of room, or none was gainful. Nothing waits.
pub record GainsRoom (old : Parts) (result : Result (Unit {0}) CleanFault) (new : Parts) : Type 0 where
  pub gained : OnOk result (GainsSpace old new)
  pub full : OnErr result (NoneIsGainful new)
  pub written : OnErr result (WritesWaiting old new)
  pub flushed : IsFlushed new
