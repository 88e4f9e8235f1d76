use Rattle.std.proofs.Common.{◌≡◌}
use Rattle.std.specs.Prelude.{drop}
use Rattle.lfs_opens.specs.Listing.{all_names, listed_on, listing_of}
use Rattle.lfs_opens.proofs.listing.entries.Given as goal

abbrev pub invariant-loop-place : goal.invariant-loop-place
invariant-loop-place l = record {
  told : listed_on l.most l.place (drop l.place (all_names l.names)) l.listing.items
      ≡ listing_of l.names l.offset l.most;
}
