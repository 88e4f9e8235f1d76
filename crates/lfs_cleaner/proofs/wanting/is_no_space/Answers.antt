use Rattle.std.proofs.Common.{rules}
use Rattle.lfs_cleaner.proofs.wanting.is_no_space.Goals as goal

pub returns-in_default : goal.returns-in_default
returns-in_default c = search rules
