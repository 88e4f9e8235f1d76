use Rattle.std.proofs.Common.{refl}
use Rattle.lfs_inodes.proofs.inode.Inode.new.Goals as goal

pub returns-clause-attributes : goal.returns-clause-attributes
returns-clause-attributes c = refl
