use Rattle.std.proofs.Common.{◌≡◌, ℕ, ◌+◌, ◌<◌, get_or, length}
use Rattle.lfs_inodes.specs.declared.inode.Inode.{Inode}
use Rattle.lfs_parts.proofs.oldest.oldest_of.Given as goal

-- the records so far stand in their places
abbrev pub invariant-loop-place : goal.invariant-loop-place
invariant-loop-place l = record {
  long : length l.records ≡ 4;
  copied : (k : ℕ) (d : Inode) → k < l.place → get_or l.records k d ≡ get_or l.waiting.items (l.first + k) d;
}
