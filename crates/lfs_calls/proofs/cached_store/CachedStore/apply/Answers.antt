use Rattle.std.proofs.Common.{sym, subst}
use Rattle.lfs_types.specs.Changes.{applied}
use Rattle.lfs_calls.specs.Names.{AreTrue, KeepsNames}
use Rattle.lfs_calls.proofs.NameLemmas.{after_changes, true_kept}
use Rattle.lfs_calls.proofs.cached_store.CachedStore.apply.Goals as goal

pub invariant_of-self : goal.invariant_of-self
invariant_of-self g c =
    let s = (g.F.FileStore.state c.self.inside.store).content in
    let keeps = subst (λ x. KeepsNames (g.F.FileStore.state x).content
    (applied c.args.changes.now (g.F.FileStore.state x).content)) (sym c.self.view_is) c.requires.keeps in
    let made = c.apply_followed.ensures.applies in
    record {
      listed = after_changes (AreTrue c.self.inside.names) c.apply_followed.result s _
          (g.F.FileStore.state c.apply_followed.new.store).content made.ok made.err
          c.self.invariant.listed (true_kept c.self.inside.names s _ c.self.invariant.listed keeps);
      shown = c.apply_followed.ensures.shown c.self.invariant.shown;
      full = c.apply_followed.ensures.full c.self.invariant.full;
      placed = c.apply_followed.ensures.placed c.self.invariant.placed tt;
    }
