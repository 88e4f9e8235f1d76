use Rattle.std.proofs.Common.{refl}
use Rattle.lfs_types.proofs.file_flags.FileFlags.none.Goals as goal

pub returns : goal.returns
returns c = refl
