use Rattle.lfs_opens.specs.Listing.{names_at}
use Rattle.lfs_opens.proofs.listing.Listings.get.Goals as goal

pub returns : goal.returns
unfolding names_at
returns c = c.get.ensures.value
