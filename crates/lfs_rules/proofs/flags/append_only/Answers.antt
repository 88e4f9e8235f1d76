use Rattle.std.proofs.Common.{arith}
use Rattle.lfs_rules.proofs.BitTests.{user_append_test, system_append_test}
use Rattle.lfs_rules.proofs.flags.append_only.Goals as goal

pub returns-then-contains : goal.returns-then-contains
returns-then-contains c = grind (arith, user_append_test)

pub returns-else-contains : goal.returns-else-contains
returns-else-contains c = grind (arith, user_append_test, system_append_test)
