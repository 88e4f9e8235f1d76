use Rattle.std.proofs.Common.{◌≡◌, refl}
use Rattle.lfs_types.specs.declared.level.Level.TheVariants.{Insecure}
use Rattle.lfs_volume.proofs.OpeningLemmas.{shows_opening_state}
use Rattle.lfs_share.proofs.OpeningLemmas.{enough, no_fault}
use Rattle.lfs_stands.proofs.FitLemmas.{fresh_flushed}
use Rattle.lfs_stands.proofs.OverLemmas.{opening_over}
use Rattle.lfs_programs.proofs.StandLemmas.{err_of, fresh_over, ok_of, within_over}
use Rattle.lfs_programs.proofs.volume.laid_out.Goals as goal

pub over_log-requires : goal.over_log-requires
over_log-requires g c =
    fresh_flushed c.args.options.now.params c.args.options.now.serials c.in_ok-store.store c.in_ok-store.ensures.laid_out

pub unreachable-requires : goal.unreachable-requires
unreachable-requires g c =
    let p = c.args.options.now.params in
    let store = c.in_ok-store.store in
    let laid = c.in_ok-store.ensures in
    g.met.S.OverLog.opens p c.args.options.now.serials store c.in-Err.field-0 c.requires laid.laid_out
    laid.whole laid.ordered laid.opening
    (enough p.segments p.inodes p.frames (λ few. no_fault _ _ (laid.too_few.1 few)))
    (err_of (λ why. g.S.OnLog.stand.refuses why store) c.in_ok-made.made c.in-Err.field-0 c.in-Err.is
    c.in_ok-made.ensures.unfit)

pub new-requires : goal.new-requires
new-requires g c =
    let stand = g.S.OnLog.stand in
    let store = c.in_ok-store.store in
    opening_over g.S.FileStore.state stand c.in-Ok.store store (g.met.S.OnLog.contains c.in-Ok.store)
    (ok_of (λ s. stand.parts s ≡ store) c.in_ok-made.made c.in-Ok.store c.in-Ok.is c.in_ok-made.ensures.fit)
    (shows_opening_state _ _ c.in_ok-store.ensures.opening refl)

pub returns-clause-begun : goal.returns-clause-begun
returns-clause-begun g c =
    let stand = g.S.OnLog.stand in
    let store = c.in_ok-store.store in
    fresh_over g.S.FileStore.state stand c.args.options.now.serials c.args.options.now store c.in-Ok.store c.in_ok-volume.volume
    (ok_of (λ s. stand.parts s ≡ store) c.in_ok-made.made c.in-Ok.store c.in-Ok.is c.in_ok-made.ensures.fit)
    c.in_ok-store.ensures.opening c.in_ok-store.ensures.laid_out c.in_ok-volume.ensures.fresh
    c.in_ok-volume.ensures.opening

pub returns-clause-within : goal.returns-clause-within
returns-clause-within g c = within_over g.S.OnLog.stand c.in-Ok.store c.in_ok-volume.volume Insecure _
    c.in_ok-volume.ensures.fresh
    (ok_of g.S.OnLog.stand.within c.in_ok-made.made c.in-Ok.store c.in-Ok.is c.in_ok-made.ensures.within)
