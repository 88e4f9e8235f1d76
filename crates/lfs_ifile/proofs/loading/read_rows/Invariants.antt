use Rattle.std.proofs.Common.{◌≡◌, ◌*◌, ◌<◌, ℕ, length}
use Rattle.std.specs.Prelude.{slice_index_or}
use Rattle.lfs_types.specs.declared.limits.TheConstants.{SEGMENT_BLOCKS}
use Rattle.lfs_ifile.specs.Inode.{IsRow, fresh_row}
use Rattle.lfs_ifile.specs.Layout.{ReadsRow, row_place}
use Rattle.lfs_ifile.proofs.loading.read_rows.Given as goal

abbrev pub invariant-loop-number : goal.invariant-loop-number
invariant-loop-number l = record {
  long : length l.rows.items ≡ l.inodes;
  read : (n : ℕ) → n < l.number → ReadsRow l.bytes (row_place l.segments n) (slice_index_or l.rows.items n fresh_row);
  formed : (n : ℕ) → n < l.number → IsRow (SEGMENT_BLOCKS * l.segments) (slice_index_or l.rows.items n fresh_row);
}
