use Rattle.std.proofs.Common.{◌≡◌, refl}
use Rattle.lfs_volume.proofs.OpeningLemmas.{shows_opening_state}
use Rattle.lfs_share.proofs.OpeningLemmas.{enough, no_fault}
use Rattle.lfs_stands.specs.declared.unfit.Unfit.{Unfit}
use Rattle.lfs_stands.proofs.OverLemmas.{opening_over}
use Rattle.lfs_fuse_talk.proofs.StandLemmas.{fresh_begun}
use Rattle.lfs_fuse_talk.proofs.VolumeLemmas.{err_at, ok_at}
use Rattle.lfs_fuse_talk.proofs.volume.fresh.Goals as goal

pub unreachable-requires : goal.unreachable-requires
unreachable-requires g c =
    let p = c.args.options.now.params in
    let log = c.in_ok-store.store in
    let made = c.in_ok-store.ensures in
    g.met.F.OverLog.opens p c.args.options.now.serials log c.in-Err.field-0 c.requires made.laid_out made.whole
    made.ordered made.opening (enough p.segments p.inodes p.frames (λ few. no_fault _ _ (made.too_few.1 few)))
    (err_at (λ (why : Unfit). g.F.OnLog.stand.refuses why log) c.in_ok-store-2.field-0 c.in-Err.field-0 c.in-Err.is
    c.in_ok-store-2.ensures.unfit)

pub new-requires : goal.new-requires
new-requires g c =
    let log = c.in_ok-store.store in
    let on = ok_at (λ over. g.F.OnLog.stand.parts over ≡ log) c.in_ok-store-2.field-0 c.in-Ok.store c.in-Ok.is
    c.in_ok-store-2.ensures.fit in
    opening_over g.F.FileStore.state g.F.OnLog.stand c.in-Ok.store log (g.met.F.OnLog.contains c.in-Ok.store) on
    (shows_opening_state _ _ c.in_ok-store.ensures.opening refl)

pub returns-clause-begun : goal.returns-clause-begun
returns-clause-begun g c =
    let log = c.in_ok-store.store in
    let stand = g.F.OnLog.stand in
    let over = c.in-Ok.store in
    fresh_begun g.F.FileStore.state stand c.args.options.now log over c.in_ok-volume.volume
    c.in_ok-new.field-0.tree.volume _
    (ok_at (λ over. stand.parts over ≡ log) c.in_ok-store-2.field-0 over c.in-Ok.is c.in_ok-store-2.ensures.fit)
    (ok_at stand.within c.in_ok-store-2.field-0 over c.in-Ok.is c.in_ok-store-2.ensures.within)
    c.in_ok-store.ensures.laid_out c.in_ok-volume.ensures.fresh c.in_ok-volume.ensures.opening
    c.in_ok-new.ensures.volume
