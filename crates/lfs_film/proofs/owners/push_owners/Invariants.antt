use Rattle.std.proofs.Common.{◌≡◌, ◌++◌}
use Rattle.std.specs.List.{flat_map}
use Rattle.lfs_film.specs.Frames.{first_changed_owners, item}
use Rattle.lfs_film.proofs.owners.push_owners.Given as goal

abbrev pub invariant-loop-number : goal.invariant-loop-number
invariant-loop-number l = l.out.items ≡ l.fn.out.items ++ flat_map item (first_changed_owners l.old l.new l.number)
