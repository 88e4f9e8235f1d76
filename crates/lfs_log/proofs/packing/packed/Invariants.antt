use Rattle.lfs_log.proofs.PackingLemmas.{IsPackedBelow}
use Rattle.lfs_log.proofs.packing.packed.Given as goal

abbrev pub invariant-loop-k : goal.invariant-loop-k
invariant-loop-k l = IsPackedBelow l.k l.inodes l.block
