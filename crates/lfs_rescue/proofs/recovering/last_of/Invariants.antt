use Rattle.std.proofs.Common.{take}
use Rattle.lfs_rescue.specs.Recovering.{IsLastOf}
use Rattle.lfs_rescue.proofs.recovering.last_of.Given as goal

-- the last of those so far
abbrev pub invariant-loop-index : goal.invariant-loop-index
invariant-loop-index l = IsLastOf (take l.index l.partials) l.last
