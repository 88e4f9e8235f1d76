use Rattle.std.proofs.Common.{arith}
use Rattle.std.proofs.lemmas.Grind.{common_steps}
use Rattle.lfs_opens.specs.Listing.{names_at}
use Rattle.lfs_opens.proofs.listing.Listings.new.Goals as goal

pub returns : goal.returns
unfolding names_at
returns c = grind (arith, common_steps, c.new.ensures.empty)
