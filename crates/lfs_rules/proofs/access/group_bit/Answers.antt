use Rattle.std.proofs.Common.{rules}
use Rattle.lfs_rules.proofs.access.group_bit.Goals as goal

pub returns-in-Search : goal.returns-in-Search
returns-in-Search c = search rules
