use Rattle.lfs_rescue.proofs.WipingLemmas.{AreEnds}
use Rattle.lfs_rescue.proofs.wiping.raise_all.Given as goal

-- where logs end by those so far
abbrev pub invariant-loop-index : goal.invariant-loop-index
invariant-loop-index l = AreEnds l.memory l.partials l.index l.ends
