use Rattle.std.proofs.Common.{arith}
use Rattle.std.proofs.lemmas.Grind.{common_steps}
use Rattle.lfs_known.specs.Says.{says}
use Rattle.lfs_known.proofs.slots.Slots.new.Goals as goal

pub returns : goal.returns
unfolding says
returns g c number = grind (arith, common_steps, c.in_ok-slots.ensures.items_if_clones_equal)
