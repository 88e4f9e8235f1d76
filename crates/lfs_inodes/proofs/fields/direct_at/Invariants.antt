use Rattle.std.proofs.Common.{◌≡◌, ◌+◌, ◌*◌, ◌<◌, ℕ, length, slice_index}
use Rattle.lfs_inodes.specs.Bytes.{number_at}
use Rattle.lfs_inodes.proofs.fields.direct_at.Given as goal

abbrev pub invariant-loop-n : goal.invariant-loop-n
invariant-loop-n l =
    (length l.direct ≡ 12) × ((k : ℕ) → k < l.n → slice_index l.direct k ≡ number_at l.bytes (36 + 4 * k) 4)
