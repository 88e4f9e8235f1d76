use Rattle.lfs_bmap.specs.Blocks.{code_of}
use Rattle.lfs_parts.proofs.parts.Parts.+address_of.Given as goal

abbrev pub decreases-address_of : goal.decreases-address_of
decreases-address_of l = code_of l.block
