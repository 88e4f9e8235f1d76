use Rattle.std.proofs.Common.{sym, subst}
use Rattle.lfs_calls.specs.Names.{IsFound}
use Rattle.lfs_calls.proofs.NameLemmas.{true_entered}
use Rattle.lfs_calls.proofs.cached_store.CachedStore.enter.Goals as goal

pub invariant_of-self : goal.invariant_of-self
invariant_of-self g c =
    let s = (g.F.FileStore.state c.self.inside.store).content in
    let is = subst (λ x. IsFound (g.F.FileStore.state x).content c.args.dir c.args.name.now c.args.found)
    (sym c.self.view_is) c.requires in
    record {
      listed = true_entered c.self.inside.names c.enter.new.self s c.args.dir c.args.name.now c.args.found
          c.enter.ensures.entered c.enter.ensures.others is c.self.invariant.listed;
      shown = c.self.invariant.shown;
      full = c.self.invariant.full;
      placed = c.self.invariant.placed;
    }
