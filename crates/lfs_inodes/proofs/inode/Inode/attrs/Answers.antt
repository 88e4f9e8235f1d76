use Rattle.std.proofs.Common.{refl}
use Rattle.lfs_inodes.proofs.inode.Inode.attrs.Goals as goal

pub returns : goal.returns
returns c = refl
