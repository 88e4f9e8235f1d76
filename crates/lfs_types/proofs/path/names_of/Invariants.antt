use Rattle.std.proofs.Common.{length}
use Rattle.lfs_types.proofs.NameLemmas.{Reading, StartsWellOrNone}
use Rattle.lfs_types.proofs.path.names_of.Given as goal

abbrev pub invariant-loop-names : goal.invariant-loop-names
invariant-loop-names l = Reading l.text l.rest l.names.items l.component × StartsWellOrNone l.names.items

abbrev pub decreases-loop-names : goal.decreases-loop-names
decreases-loop-names l = length l.rest
