use Rattle.std.proofs.Common.{◌≡◌, ◌++◌}
use Rattle.lfs_browse.specs.Trees.{indent}
use Rattle.lfs_browse.proofs.walk.push_indent.Given as goal

abbrev pub invariant-loop : goal.invariant-loop
invariant-loop l = l.out.items ≡ l.fn.out.items ++ indent l.counter
