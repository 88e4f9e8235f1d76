use Rattle.lfs_bmap.specs.Blocks.{code_of}
use Rattle.lfs_staging.proofs.staging.+stage_parents.Given as goal

abbrev pub decreases-stage_parents : goal.decreases-stage_parents
decreases-stage_parents l = code_of l.block
