use Rattle.std.proofs.Common.{◌≡◌, inl, inr}
use Rattle.lfs_stands.proofs.FitLemmas.{loaded_flushed}
use Rattle.lfs_stands.proofs.OverLemmas.{world_over}
use Rattle.lfs_programs.proofs.StandLemmas.{err_of, image_over, ok_of, within_over}
use Rattle.lfs_programs.proofs.volume.over.Goals as goal

pub over_log-requires : goal.over_log-requires
over_log-requires g c = loaded_flushed _ c.args.store c.args.level c.requires.loaded

pub over-requires : goal.over-requires
over-requires g c =
    let stand = g.S.OnLog.stand in
    let store = c.in-Ok-made.store in
    world_over g.S.FileStore.state stand store c.args.store (g.met.S.OnLog.contains store)
    (ok_of (λ s. stand.parts s ≡ c.args.store) c.in-Ok.made store c.in-Ok-made.is c.in-Ok.ensures.fit)
    c.requires.loaded.world

pub returns-in-Ok-over-clause-begun : goal.returns-in-Ok-over-clause-begun
returns-in-Ok-over-clause-begun g c =
    let stand = g.S.OnLog.stand in
    let store = c.in-Ok-made.store in
    let made = c.in-Ok.made in
    let is = c.in-Ok-made.is in (
      within_over stand store c.in-Ok-over.volume c.args.level _ c.in-Ok-over.ensures
          (ok_of stand.within made store is c.in-Ok.ensures.within),
      inr (inl (
        c.requires.image,
        image_over stand c.args.options.now c.args.store store c.args.level c.in-Ok-over.volume
            (ok_of (λ s. stand.parts s ≡ c.args.store) made store is c.in-Ok.ensures.fit) c.requires.loaded
            c.in-Ok-over.ensures,
      )),
    )

pub returns-in-Err-made-clause-fault : goal.returns-in-Err-made-clause-fault
returns-in-Err-made-clause-fault g c = record {
  image = c.requires.image;
  store = c.args.store;
  level = c.args.level;
  loaded = c.requires.loaded;
  refused = err_of (λ why. g.S.OnLog.stand.refuses why c.args.store) c.in-Ok.made c.in-Err-made.why c.in-Err-made.is
      c.in-Ok.ensures.unfit;
}
