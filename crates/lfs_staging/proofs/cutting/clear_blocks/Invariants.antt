use Rattle.lfs_staging.specs.Cutting.{ClearsBlocks}
use Rattle.lfs_staging.proofs.cutting.clear_blocks.Given as goal

abbrev pub invariant-loop-index : goal.invariant-loop-index
invariant-loop-index l = ClearsBlocks l.ino l.first l.index l.fn.parts l.parts
