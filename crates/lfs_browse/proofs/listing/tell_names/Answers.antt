use Rattle.std.proofs.lemmas.Result.{on_ok_weaker}
use Rattle.lfs_volume.specs.Cleanings.{cleaner_of}
use Rattle.lfs_browse.proofs.ListingLemmas.{names_told}
use Rattle.lfs_browse.proofs.listing.tell_names.Goals as goal

pub returns : goal.returns
returns g c =
    on_ok_weaker c.push_more.result
    (λ printed. names_told (cleaner_of g.F.FileStore.state g.F.FileStore.is_flushed g.F.FileStore.made g.F.CleanedStore.cleaner)
    c.args.volume.now c.tell_rows.new.volume c.args.asker.now c.args.directory.now c.args.names.now
    c.first_of-first.result.now c.in_ok-rows.rows c.args.text.now.items c.tell_rows.new.text.items
    c.push_more.new.out.items c.first_of-first.ensures.first c.in_ok-rows.ensures.counted c.in_ok-rows.ensures.told
    printed)
    c.push_more.ensures
