use Rattle.std.proofs.Common.{rules}
use Rattle.lfs_rules.proofs.level.level_change.Goals as goal

pub returns-else-lt : goal.returns-else-lt
returns-else-lt c = search rules
