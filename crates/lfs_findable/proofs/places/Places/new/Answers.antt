use Rattle.std.proofs.Common.{arith}
use Rattle.std.proofs.lemmas.Grind.{common_steps}
use Rattle.lfs_findable.specs.Maps.{address_of}
use Rattle.lfs_findable.proofs.places.Places.new.Goals as goal

pub returns : goal.returns
unfolding address_of
returns c = grind (arith, common_steps, c.new.ensures.empty)
