use Rattle.std.proofs.Common.{rules, arith}
use Rattle.std.proofs.lemmas.Grind.{common_steps}
use Rattle.lfs_ifile.proofs.tables.Ifile.release.Goals as goal

pub invariant_of-self-else-at-ge-FIRST_FREE : goal.invariant_of-self-else-at-ge-FIRST_FREE
invariant_of-self-else-at-ge-FIRST_FREE c = search rules

pub returns-then-at-self-clause-after : goal.returns-then-at-self-clause-after
returns-then-at-self-clause-after c = grind (arith, common_steps)

pub returns-then-at-self-clause-row : goal.returns-then-at-self-clause-row
returns-then-at-self-clause-row c = grind (arith, common_steps)

pub returns-else-at-ge-FIRST_FREE-clause-after : goal.returns-else-at-ge-FIRST_FREE-clause-after
returns-else-at-ge-FIRST_FREE-clause-after c = grind (arith, common_steps)

pub returns-else-at-ge-FIRST_FREE-clause-row : goal.returns-else-at-ge-FIRST_FREE-clause-row
returns-else-at-ge-FIRST_FREE-clause-row c = grind (arith, common_steps)
