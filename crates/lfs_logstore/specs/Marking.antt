-- Blocks written again at the end of the log.
use Rattle.std.specs.Prelude.{ℕ, ◌≤◌, List, Result, IfOk, OnErr}
use Rattle.lfs_types.specs.declared.cleaner.BlockInfo.{BlockInfo}
use Rattle.lfs_types.specs.declared.cleaner.CleanFault.{CleanFault}
use Rattle.lfs_found.specs.Written.{IsRecoverable}
use Rattle.lfs_parts.specs.declared.parts.Parts.{Parts}
use Rattle.lfs_segwrite.specs.Applying.{WritesWaiting}
use Rattle.lfs_segwrite.specs.Ordered.{IsOrdered}
use Rattle.lfs_segwrite.specs.Finishing.{LacksRoomFor, MarksAgain}
use Rattle.lfs_parts.specs.Store.{IsFlushed}

-- Blocks may be written again with this result, from one state of the store to another: all that are named with their
-- present address once what waited was written, which are counted; none where there is no room for them, or no dirty
-- segment could be finished behind them, which comes only where at most one segment was clean. What recovery found it
-- finds, and what was written too; and each number's latest record stays where the inode map has it.
pub record WritesAgain (old : Parts) (marks : List BlockInfo) (result : Result ℕ CleanFault)
    (new : Parts) : Type 0 where
  pub marked : IfOk result (λ count. MarksAgain marks count old new)
  pub flushed : IsFlushed new
  pub whole : IsRecoverable old.log.memory → IsRecoverable new.log.memory
  pub ordered : IsRecoverable old.log.memory → IsOrdered old.log → IsOrdered new.log
  pub refused : OnErr result (WritesWaiting old new)
  pub lacking : OnErr result (LacksRoomFor marks new)
  pub reserved : OnErr result (old.log.clean ≤ 1)
