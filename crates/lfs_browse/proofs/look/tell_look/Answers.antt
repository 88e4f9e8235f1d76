use Rattle.std.proofs.Common.{List, ℕ, subst}
use Rattle.lfs_volume.specs.Cleanings.{cleaner_of}
use Rattle.lfs_browse.specs.Looks.{TellsLook}
use Rattle.lfs_browse.proofs.look.tell_look.Goals as goal

pub returns : goal.returns
returns g c =
    subst (λ (l : List ℕ). TellsLook (cleaner_of g.F.FileStore.state g.F.FileStore.is_flushed g.F.FileStore.made g.F.CleanedStore.cleaner)
    c.args.volume.now c.push_look.new.volume c.args.asker.now c.args.look c.args.path.now l
    c.push_look.new.text.items) c.new-text.ensures.items c.in_ok-push_look.ensures
