use Rattle.std.proofs.Common.{arith}
use Rattle.lfs_rules.proofs.BitTests.{sticky_test}
use Rattle.lfs_rules.proofs.access.sticky_bars.Goals as goal

pub returns-then-contains : goal.returns-then-contains
returns-then-contains c = grind (arith, sticky_test)

pub returns-else-contains : goal.returns-else-contains
returns-else-contains c = grind (arith, sticky_test)
