use Rattle.std.proofs.Common.{◌≢◌, ℕ, ◌<◌, get_or}
use Rattle.lfs_inodes.specs.declared.inode.Inode.{Inode}
use Rattle.lfs_parts.proofs.records.find_record.Given as goal

-- no record so far has the number
abbrev pub invariant-loop-place : goal.invariant-loop-place
invariant-loop-place l = (p : ℕ) (d : Inode) → p < l.place → (get_or l.records.items p d).number ≢ l.number
