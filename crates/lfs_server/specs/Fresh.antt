-- A fresh volume over the log store, and why it may not be made.
use Rattle.std.specs.Prelude.{◌≡◌, ℕ}
use Rattle.lfs_types.specs.declared.fault.FormatFault.{FormatFault}
use Rattle.lfs_types.specs.declared.fault.FormatFault.TheVariants.{TooFew, TooMany, Memory}
use Rattle.lfs_parts.specs.Opening.{IsOpening, IsTooFew, IsTooMany}
use Rattle.lfs_parts.specs.declared.parts.Parts.{Parts}
use Rattle.lfs_logstore.specs.States.{opening_state, state_of}
use Rattle.lfs_server.specs.Serving.{IsInRange}

-- A log store of so many segments, inode numbers and frames was just laid out: it shows the opening tree; a summary and
-- the block with the root's record are written and nothing else, no frame is taken, and nothing waits.
pub record IsFreshLog (segments inodes frames : ℕ) (store : Parts) : Type 0 where
  pub opening : state_of store ≡ opening_state segments inodes
  pub laid_out : IsOpening segments inodes frames store

-- a log of so many segments, inode numbers and frames may not be laid out for this fault
abbrev pub IsFormatFault : ℕ → ℕ → ℕ → FormatFault → Type 0
IsFormatFault segments inodes frames TooFew = IsTooFew segments inodes frames
IsFormatFault segments inodes frames TooMany = IsTooMany segments inodes frames
IsFormatFault segments inodes frames Memory = IsInRange segments inodes frames
