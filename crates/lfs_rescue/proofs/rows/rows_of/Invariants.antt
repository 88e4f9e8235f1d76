use Rattle.std.proofs.Common.{◌≡◌, ◌<◌, ℕ, None, false, get_or, length}
use Rattle.lfs_ifile.specs.Inode.{fresh_row}
use Rattle.lfs_rescue.specs.Building.{row_told}
use Rattle.lfs_rescue.proofs.rows.rows_of.Given as goal

-- those so far are told
abbrev pub invariant-loop-number : goal.invariant-loop-number
invariant-loop-number l = record {
  many : length l.rows.items ≡ l.found.inodes;
  told : (n : ℕ) → n < l.number
      → get_or l.rows.items n fresh_row
      ≡ row_told (get_or l.found.places.now n None) (get_or l.found.marks.now n false);
  fits : (n : ℕ) → n < l.number → (get_or l.rows.items n fresh_row).version < 4294967296;
}
