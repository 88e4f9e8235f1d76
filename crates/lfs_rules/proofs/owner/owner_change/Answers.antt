use Rattle.std.proofs.Common.{rules}
use Rattle.lfs_rules.proofs.owner.owner_change.Goals as goal

pub returns-then-may_give : goal.returns-then-may_give
returns-then-may_give c = search rules

pub returns-else-may_give : goal.returns-else-may_give
returns-else-may_give c = search rules
