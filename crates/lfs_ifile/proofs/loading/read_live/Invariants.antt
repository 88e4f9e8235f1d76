use Rattle.std.proofs.Common.{◌≡◌, ◌+◌, ◌*◌, ◌<◌, ◌≤◌, ℕ, length}
use Rattle.std.specs.Prelude.{slice_index}
use Rattle.lfs_ifile.specs.declared.segment.TheConstants.{SEGMENT_BYTES}
use Rattle.lfs_ifile.specs.Layout.{number_at}
use Rattle.lfs_ifile.proofs.loading.read_live.Given as goal

abbrev pub invariant-loop-segment : goal.invariant-loop-segment
invariant-loop-segment l = record {
  long : length l.live.items ≡ l.segments;
  read : (s : ℕ) → s < l.segment → slice_index l.live.items s ≡ number_at l.bytes (12 + 8 * s);
  few : (s : ℕ) → slice_index l.live.items s ≤ SEGMENT_BYTES;
}
