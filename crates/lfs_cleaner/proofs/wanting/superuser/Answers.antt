use Rattle.std.proofs.Common.{rules}
use Rattle.lfs_cleaner.proofs.wanting.superuser.Goals as goal

pub returns : goal.returns
returns c = search rules
