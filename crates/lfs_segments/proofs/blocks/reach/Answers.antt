use Rattle.std.proofs.Common.{arith}
use Rattle.std.proofs.lemmas.Grind.{common_steps}
use Rattle.lfs_types.specs.Blocks.{zero_block}
use Rattle.lfs_segments.proofs.blocks.reach.Goals as goal

pub returns-in-Ok-clause-reached : goal.returns-in-Ok-clause-reached
unfolding zero_block
returns-in-Ok-clause-reached c = grind (arith, common_steps)
