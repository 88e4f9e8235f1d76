use Rattle.std.proofs.Common.{arith}
use Rattle.lfs_rules.proofs.BitTests.{owner_test, group_test, other_test}
use Rattle.lfs_rules.proofs.access.grants.Goals as goal

pub returns-then-uid-attrs : goal.returns-then-uid-attrs
returns-then-uid-attrs c = grind (arith, owner_test)

pub returns-then-is_member : goal.returns-then-is_member
returns-then-is_member c = grind (arith, group_test)

pub returns-else-is_member : goal.returns-else-is_member
returns-else-is_member c = grind (arith, other_test)
