use Rattle.std.proofs.Common.{◌≡◌, ℕ, ◌+◌, ◌*◌, ◌<◌, ◌≤◌, slice_index, slice_index_or}
use Rattle.lfs_segments.specs.Bytes.{IsBlock}
use Rattle.lfs_segments.specs.Entry.{IsEntryAt, unused}
use Rattle.lfs_segments.proofs.summary.write_entries.Given as goal

-- the entries so far are written, and all else stays
abbrev pub invariant-loop-k : goal.invariant-loop-k
invariant-loop-k l = record {
  bytes : IsBlock l.block;
  written : (j : ℕ) → j < l.k → IsEntryAt l.block (16 + 12 * j) (slice_index_or l.entries j unused);
  before : (i : ℕ) → i < 16 → slice_index l.block i ≡ slice_index l.fn.block i;
  after : (i : ℕ) → 16 + 12 * l.k ≤ i → slice_index l.block i ≡ slice_index l.fn.block i;
}
