-- Blocks that are written again behind room leave a segment clean, for `cleaning::SharedStore::markv`.
use Rattle.std.proofs.Common.{ℕ, ◌<◌, ◌≤◌, List, Result, Ok, Err, arith}
use Rattle.lfs_types.specs.declared.cleaner.BlockInfo.{BlockInfo}
use Rattle.lfs_types.specs.declared.cleaner.CleanFault.{CleanFault}
use Rattle.lfs_segwrite.specs.Finishing.{MarksAgain}
use Rattle.lfs_parts.specs.declared.parts.Parts.{Parts}
use Rattle.lfs_logstore.specs.Marking.{WritesAgain}

pub kept_marked : (old new : Parts) (marks : List BlockInfo) (result : Result ℕ CleanFault)
    → WritesAgain old marks result new → 3 ≤ old.log.clean → 0 < new.log.clean
kept_marked old new marks (Ok count) w clean =
    let again : MarksAgain marks count old new = w.marked in
    let opened = again.opened in
    omega arith
kept_marked old new marks (Err fault) w clean =
    let few : old.log.clean ≤ 1 = w.reserved in
    absurd (omega arith)
