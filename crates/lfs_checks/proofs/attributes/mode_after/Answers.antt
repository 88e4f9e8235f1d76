use Rattle.std.proofs.Common.{rules}
use Rattle.lfs_checks.proofs.attributes.mode_after.Goals as goal

pub returns-else-is_superuser : goal.returns-else-is_superuser
returns-else-is_superuser c = search rules
