use Rattle.std.proofs.Common.{List, ℕ, subst}
use Rattle.std.proofs.lemmas.Result.{on_ok_weaker}
use Rattle.lfs_volume.specs.Cleanings.{cleaner_of}
use Rattle.lfs_browse.specs.Steps.{TellsNames}
use Rattle.lfs_browse.proofs.ListingLemmas.{listed_names, listed_none}
use Rattle.lfs_browse.proofs.listing.tell_listed.Goals as goal

pub returns-in-Some : goal.returns-in-Some
returns-in-Some g c =
    let r = cleaner_of g.F.FileStore.state g.F.FileStore.is_flushed g.F.FileStore.made g.F.CleanedStore.cleaner in
    on_ok_weaker c.tell_names.result
    (λ tells. listed_names r c.args.volume.now c.tell_names.new.volume c.args.asker.now c.args.path.now
    c.args.answer.now c.in-Some.names.now c.args.text.now.items c.tell_names.new.text.items c.in-Some.ensures
    (subst (λ (l : List (List ℕ)). TellsNames r c.args.volume.now c.tell_names.new.volume c.args.asker.now
    c.args.path.now l c.args.text.now.items c.tell_names.new.text.items) c.as_slice.ensures tells))
    c.tell_names.ensures

pub returns-in-None : goal.returns-in-None
returns-in-None g c =
    on_ok_weaker c.append_answer.result
    (λ printed. listed_none (cleaner_of g.F.FileStore.state g.F.FileStore.is_flushed g.F.FileStore.made g.F.CleanedStore.cleaner)
    c.args.volume.now c.args.asker.now c.args.path.now c.args.answer.now c.args.text.now.items
    c.append_answer.new.out.items c.in-None.ensures printed)
    c.append_answer.ensures
