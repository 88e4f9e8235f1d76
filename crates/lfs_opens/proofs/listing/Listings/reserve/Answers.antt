use Rattle.lfs_opens.specs.Listing.{names_at, spare_in}
use Rattle.lfs_opens.proofs.listing.Listings.reserve.Goals as goal

pub returns-clause-same : goal.returns-clause-same
unfolding names_at
returns-clause-same c handle = c.reserve.ensures.entries.2 handle

pub returns-clause-room : goal.returns-clause-room
unfolding spare_in
returns-clause-room c = c.reserve.ensures.ok
