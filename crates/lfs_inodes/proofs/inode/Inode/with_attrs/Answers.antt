use Rattle.std.proofs.Common.{refl}
use Rattle.lfs_inodes.proofs.inode.Inode.with_attrs.Goals as goal

pub returns-clause-attributes : goal.returns-clause-attributes
returns-clause-attributes c = rw c.requires refl
