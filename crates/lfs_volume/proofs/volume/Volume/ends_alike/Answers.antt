use Rattle.std.proofs.Common.{subst}
use Rattle.lfs_calls.specs.Reaches.{EndsAlike}
use Rattle.lfs_model.specs.Steps.{world_after}
use Rattle.lfs_volume.specs.Journals.{AtPresent}
use Rattle.lfs_volume.proofs.volume.Volume.ends_alike.Goals as goal

pub returns : goal.returns
returns g c is =
    let state = g.F.FileStore.state in
    subst (λ v. AtPresent state v (λ w. EndsAlike w.rows c.args.uid c.args.path.now)) c.self.view_is
    (λ from begins. let w = world_after (state c.self.inside.store).shape.numbers c.self.inside.journal.items from in
    subst (EndsAlike w.rows c.args.uid) c.names.ensures.value
    (c.ends_alike.ensures is w (c.self.invariant.1 from begins).shown))
