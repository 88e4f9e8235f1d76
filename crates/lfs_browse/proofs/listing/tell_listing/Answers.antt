use Rattle.std.proofs.lemmas.Result.{on_ok_weaker}
use Rattle.lfs_volume.specs.Cleanings.{cleaner_of}
use Rattle.lfs_browse.proofs.ListingLemmas.{listing_told}
use Rattle.lfs_browse.proofs.listing.tell_listing.Goals as goal

pub returns : goal.returns
returns g c =
    on_ok_weaker c.tell_listed-told.result
    (λ tells. listing_told (cleaner_of g.F.FileStore.state g.F.FileStore.is_flushed g.F.FileStore.made g.F.CleanedStore.cleaner)
    c.args.volume.now c.ask-answer.new.volume c.tell_listed-told.new.volume c.args.asker.now c.args.path.now
    c.in_ok-path_asked.path_asked c.ask-answer.result c.args.text.now.items c.tell_listed-told.new.text.items
    c.in_ok-path_asked.ensures c.ask-answer.ensures tells)
    c.tell_listed-told.ensures
