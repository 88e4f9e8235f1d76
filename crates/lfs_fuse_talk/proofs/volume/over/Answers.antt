use Rattle.std.proofs.Common.{◌≡◌}
use Rattle.lfs_stands.specs.declared.unfit.Unfit.{Unfit}
use Rattle.lfs_stands.proofs.OverLemmas.{world_over}
use Rattle.lfs_fuse_talk.proofs.StandLemmas.{image_begun}
use Rattle.lfs_fuse_talk.proofs.VolumeLemmas.{err_at, ok_at}
use Rattle.lfs_fuse_talk.proofs.volume.over.Goals as goal

pub over-requires : goal.over-requires
over-requires g c =
    let on = ok_at (λ over. g.F.OnLog.stand.parts over ≡ c.args.store) c.in_ok-store.field-0 c.in-Ok.store c.in-Ok.is
    c.in_ok-store.ensures.fit in
    world_over g.F.FileStore.state g.F.OnLog.stand c.in-Ok.store c.args.store
    (g.met.F.OnLog.contains c.in-Ok.store) on c.requires.loaded.world

pub returns-clause-begun : goal.returns-clause-begun
returns-clause-begun g c =
    let stand = g.F.OnLog.stand in
    let over = c.in-Ok.store in
    image_begun g.F.FileStore.state stand c.args.options.now c.args.store over c.args.level c.in_ok-volume.volume
    c.in_ok-new.field-0.tree.volume _
    (ok_at (λ over. stand.parts over ≡ c.args.store) c.in_ok-store.field-0 over c.in-Ok.is c.in_ok-store.ensures.fit)
    (ok_at stand.within c.in_ok-store.field-0 over c.in-Ok.is c.in_ok-store.ensures.within)
    c.requires.image c.requires.loaded c.in_ok-volume.ensures c.in_ok-new.ensures.volume

pub returns-in-Err-clause-fault : goal.returns-in-Err-clause-fault
returns-in-Err-clause-fault g c = record {
  image = c.requires.image;
  store = c.args.store;
  level = c.args.level;
  loaded = c.requires.loaded;
  refused = err_at (λ (why : Unfit). g.F.OnLog.stand.refuses why c.args.store) c.in_ok-store.field-0 c.in-Err.why
      c.in-Err.is c.in_ok-store.ensures.unfit;
}
