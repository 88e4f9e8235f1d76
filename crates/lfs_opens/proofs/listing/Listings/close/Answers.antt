use Rattle.std.proofs.Common.{refl, sym}
use Rattle.std.proofs.lemmas.Bool.{ne_eqb}
use Rattle.lfs_opens.specs.Listing.{names_at}
use Rattle.lfs_opens.proofs.listing.Listings.close.Goals as goal

pub returns : goal.returns
unfolding names_at
returns c = record {
  told = refl;
  closed = record {
    closed = c.remove.ensures.updates.1;
    others = λ other apart. c.remove.ensures.updates.2 other (ne_eqb c.args.handle other (λ e. apart (sym e)));
  };
}
