use Rattle.std.proofs.Common.{rules}
use Rattle.lfs_inodes.proofs.fields.size_at.Goals as goal

pub returns : goal.returns
returns c = search rules
