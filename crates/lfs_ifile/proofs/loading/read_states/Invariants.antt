use Rattle.std.proofs.Common.{◌≡◌, ◌+◌, ◌*◌, ◌<◌, ℕ, length}
use Rattle.std.specs.Prelude.{slice_index_or}
use Rattle.lfs_ifile.specs.declared.segment.SegState.TheVariants.{Clean}
use Rattle.lfs_ifile.specs.Layout.{number_at}
use Rattle.lfs_ifile.specs.Segment.{state_number}
use Rattle.lfs_ifile.proofs.loading.read_states.Given as goal

abbrev pub invariant-loop-segment : goal.invariant-loop-segment
invariant-loop-segment l = record {
  long : length l.states.items ≡ l.segments;
  read : (s : ℕ) → s < l.segment → state_number (slice_index_or l.states.items s Clean)
      ≡ number_at l.bytes (16 + 8 * s);
}
