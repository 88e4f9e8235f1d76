use Rattle.lfs_durable.proofs.BlockLemmas.{finds_blocks}
use Rattle.lfs_durable.proofs.laws.finds_blocks.Goals as goal

pub returns : goal.returns
returns c = finds_blocks
