use Rattle.lfs_bmap.specs.Blocks.{code_of}
use Rattle.lfs_segwrite.proofs.counting.KeyList.+add_way.Given as goal

abbrev pub decreases-add_way : goal.decreases-add_way
decreases-add_way l = code_of l.block
