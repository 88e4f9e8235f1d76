use Rattle.std.proofs.Common.{◌≡◌, ◌<◌, ◌≤◌, ℕ}
use Rattle.lfs_types.specs.Blocks.{zero_block}
use Rattle.lfs_segments.specs.Memory.{block_at, next_address}
use Rattle.lfs_fsck.proofs.ending.check_zeros.Given as goal

abbrev pub invariant-loop-address : goal.invariant-loop-address
invariant-loop-address l = (a : ℕ) → next_address l.log.memory ≤ a → a < l.address → block_at l.log.memory a
    ≡ zero_block
