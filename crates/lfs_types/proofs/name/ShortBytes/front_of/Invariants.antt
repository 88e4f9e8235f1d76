use Rattle.std.proofs.Common.{◌-◌, length}
use Rattle.lfs_types.proofs.Cuts.{IsFrontCopied}
use Rattle.lfs_types.proofs.name.ShortBytes.front_of.Given as goal

abbrev pub invariant-loop-count : goal.invariant-loop-count
invariant-loop-count l = IsFrontCopied l.text l.bytes l.count

abbrev pub decreases-loop-count : goal.decreases-loop-count
decreases-loop-count l = length l.text - l.count
