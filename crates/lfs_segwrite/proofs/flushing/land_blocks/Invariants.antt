use Rattle.lfs_segwrite.proofs.FlushLemmas.{LandsKeys}
use Rattle.lfs_segwrite.proofs.flushing.land_blocks.Given as goal

abbrev pub invariant-loop-entry : goal.invariant-loop-entry
invariant-loop-entry l = LandsKeys l.fn.parts l.parts l.entry-index
