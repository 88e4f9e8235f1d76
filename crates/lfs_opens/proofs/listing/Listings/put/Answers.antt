use Rattle.std.proofs.Common.{sym}
use Rattle.std.specs.Prelude.{Result, Ok, Err, IsOk, OnOk}
use Rattle.std.proofs.lemmas.Bool.{ne_eqb}
use Rattle.lfs_opens.specs.Listing.{names_at, spare_in}
use Rattle.lfs_opens.proofs.listing.Listings.put.Goals as goal

on_ok : {T E P : Type 0} (r : Result T E) → IsOk r → OnOk r P → P
on_ok (Ok x) is h = h
on_ok (Err e) is h = absurd (cc)

pub unwrap-requires : goal.unwrap-requires
unfolding spare_in
unwrap-requires c = c.insert-put.ensures.succeeds c.requires

pub returns : goal.returns
unfolding names_at spare_in
returns c =
    let put = on_ok c.insert-put.result (c.insert-put.ensures.succeeds c.requires) c.insert-put.ensures.updates in
    record {
      kept = put.1;
      others = λ other apart. put.2 other (ne_eqb c.args.handle other (λ e. apart (sym e)));
    }
