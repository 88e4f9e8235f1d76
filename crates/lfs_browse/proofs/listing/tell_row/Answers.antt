use Rattle.std.proofs.lemmas.Option.{MatchOption-at_some}
use Rattle.lfs_volume.specs.Cleanings.{cleaner_of}
use Rattle.lfs_browse.proofs.ListingLemmas.{row_one}
use Rattle.lfs_browse.proofs.listing.tell_row.Goals as goal

pub returns-clause-told : goal.returns-clause-told
returns-clause-told g c =
    let made = MatchOption-at_some _ _ _ c.in-Some.is c.in_ok-path.ensures in
    row_one (cleaner_of g.F.FileStore.state g.F.FileStore.is_flushed g.F.FileStore.made g.F.CleanedStore.cleaner)
    c.args.volume.now c.ask-answer.new.volume c.args.asker.now c.args.directory.now c.args.name.now
    c.args.text.now.items c.push_row-pushed.new.out.items c.in-Some.path c.ask-answer.result made.0 made.1
    c.ask-answer.ensures c.in_ok-pushed.ensures
