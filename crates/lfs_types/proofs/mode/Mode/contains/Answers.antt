use Rattle.std.proofs.Common.{rules}
use Rattle.lfs_types.proofs.mode.Mode.contains.Goals as goal

pub returns : goal.returns
returns c = search rules
