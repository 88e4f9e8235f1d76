use Rattle.std.proofs.Common.{◌≡◌, ◌+◌, ◌*◌, ◌<◌, ℕ, length, slice_index}
use Rattle.lfs_inodes.specs.Bytes.{number_at, SameBetween}
use Rattle.lfs_inodes.proofs.record.put_addresses.Given as goal

abbrev pub invariant-loop-n : goal.invariant-loop-n
invariant-loop-n l = record {
  same_length : length l.bytes ≡ 128;
  written : (k : ℕ) → k < l.n → number_at l.bytes (36 + 4 * k) 4 ≡ slice_index l.inode.direct k;
  before : SameBetween l.bytes l.fn.bytes 0 36;
  after : SameBetween l.bytes l.fn.bytes 84 128;
}
