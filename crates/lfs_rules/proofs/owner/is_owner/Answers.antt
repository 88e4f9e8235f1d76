use Rattle.std.proofs.Common.{rules}
use Rattle.lfs_rules.proofs.owner.is_owner.Goals as goal

pub returns-then-is_superuser : goal.returns-then-is_superuser
returns-then-is_superuser c = search rules
