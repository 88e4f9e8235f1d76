use Rattle.std.proofs.Common.{sym, subst}
use Rattle.lfs_types.specs.Stored.{bytes_of}
use Rattle.lfs_known.specs.Full.{IsFullBefore}
use Rattle.lfs_known.proofs.FullLemmas.{full_entered}
use Rattle.lfs_calls.proofs.cached_store.CachedStore.enter_hint.Goals as goal

pub invariant_of-self : goal.invariant_of-self
invariant_of-self g c =
    let s = (g.F.FileStore.state c.self.inside.store).content in
    let is = subst (λ x. IsFullBefore (bytes_of (g.F.FileStore.state x).content c.args.dir) c.args.hint)
    (sym c.self.view_is) c.requires in
    record {
      listed = c.self.invariant.listed;
      shown = c.self.invariant.shown;
      full = full_entered c.self.inside.known.hints c.enter.new.self s c.args.dir c.args.hint c.enter.ensures.entered
          c.enter.ensures.others is c.self.invariant.full;
      placed = c.self.invariant.placed;
    }
