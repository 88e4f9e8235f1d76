use Rattle.std.proofs.Common.{length}
use Rattle.lfs_segwrite.proofs.FlushLemmas.{Remains}
use Rattle.lfs_segwrite.proofs.flushing.land_all_records.Given as goal

abbrev pub invariant-loop-parts : goal.invariant-loop-parts
invariant-loop-parts l = Remains l.fn.parts l.parts

abbrev pub decreases-loop-parts : goal.decreases-loop-parts
decreases-loop-parts l = length l.parts.waiting
