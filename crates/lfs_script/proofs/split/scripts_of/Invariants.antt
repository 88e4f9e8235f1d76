use Rattle.std.proofs.Common.{◌≡◌, map}
use Rattle.lfs_script.proofs.split.scripts_of.Given as goal

abbrev pub invariant-loop-list : goal.invariant-loop-list
invariant-loop-list l = l.scripts.items ≡ map (λ list. list.items) l.yielded
