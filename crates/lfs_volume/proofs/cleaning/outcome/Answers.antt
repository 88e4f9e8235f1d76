use Rattle.std.proofs.Common.{rules}
use Rattle.lfs_volume.proofs.cleaning.outcome.Goals as goal

pub returns-in-Marked : goal.returns-in-Marked
returns-in-Marked c = search rules
