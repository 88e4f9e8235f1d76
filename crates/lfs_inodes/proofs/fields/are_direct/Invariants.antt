use Rattle.std.proofs.Common.{◌≡◌, ◌≤◌, ◌<◌, ℕ, slice_index}
use Rattle.lfs_inodes.specs.Facts.{block_count}
use Rattle.lfs_inodes.proofs.fields.are_direct.Given as goal

abbrev pub invariant-loop-n : goal.invariant-loop-n
invariant-loop-n l =
    (k : ℕ) → k < l.n → (slice_index l.direct k < 65536) × (block_count l.size ≤ k → slice_index l.direct k ≡ 0)
