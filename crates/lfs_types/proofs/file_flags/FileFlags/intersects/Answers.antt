use Rattle.std.proofs.Common.{rules}
use Rattle.lfs_types.proofs.file_flags.FileFlags.intersects.Goals as goal

pub returns : goal.returns
returns c = search rules
