use Rattle.std.proofs.Common.{rules}
use Rattle.lfs_rules.proofs.flags.flag_change.Goals as goal

pub returns : goal.returns
returns c = search rules

pub returns-then-is_system : goal.returns-then-is_system
returns-then-is_system c = search rules
