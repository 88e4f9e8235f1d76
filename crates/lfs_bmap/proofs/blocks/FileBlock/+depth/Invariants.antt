use Rattle.lfs_bmap.specs.Blocks.{code_of}
use Rattle.lfs_bmap.proofs.blocks.FileBlock.+depth.Given as goal

abbrev pub decreases-depth : goal.decreases-depth
decreases-depth l = code_of l.self
