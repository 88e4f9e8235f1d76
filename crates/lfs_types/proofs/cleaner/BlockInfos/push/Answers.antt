use Rattle.std.proofs.Common.{rules}
use Rattle.lfs_types.proofs.cleaner.BlockInfos.push.Goals as goal

pub returns : goal.returns
returns g c = search rules
