use Rattle.std.proofs.Common.{rules}
use Rattle.lfs_ifile.proofs.inode.InodeRow.place.Goals as goal

pub returns-then-not-self : goal.returns-then-not-self
returns-then-not-self c = search rules
