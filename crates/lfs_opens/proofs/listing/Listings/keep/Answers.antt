use Rattle.std.proofs.Common.{refl, ◌∙◌}
use Rattle.lfs_opens.specs.Listing.{names_at}
use Rattle.lfs_opens.proofs.listing.Listings.keep.Goals as goal

pub returns : goal.returns
unfolding names_at
returns c = (
  refl,
  record {
    kept = c.put.ensures.kept;
    others = λ other apart. c.put.ensures.others other apart ∙ c.reserve.ensures.same other;
  },
)
