use Rattle.lfs_staging.proofs.EmptiedLemmas.{Emptied}
use Rattle.lfs_staging.proofs.cutting.clear_whole.Given as goal

-- the blocks before this one were given back, but for their addresses in the indirect block
abbrev pub invariant-loop-index : goal.invariant-loop-index
invariant-loop-index l = Emptied l.inode l.table l.held l.index l.fn.parts l.parts
