use Rattle.std.proofs.Common.{sym, subst}
use Rattle.lfs_types.specs.Changes.{applied}
use Rattle.lfs_types.specs.Tree.{Content}
use Rattle.lfs_calls.specs.Names.{FindsNew}
use Rattle.lfs_calls.proofs.NameLemmas.{true_named}
use Rattle.lfs_calls.proofs.cached_store.CachedStore.apply_naming.Goals as goal

pub invariant_of-self-2 : goal.invariant_of-self-2
invariant_of-self-2 g c =
    let s = (g.F.FileStore.state c.self.inside.store).content in
    let made = subst (λ x. FindsNew (g.F.FileStore.state x).content
    (applied c.args.changes.now (g.F.FileStore.state x).content) c.args.naming.dir c.args.naming.name.now c.args.naming.found c.args.naming.block)
    (sym c.self.view_is) c.requires.finds in
    let finds = subst (λ (x : Content). FindsNew s x c.args.naming.dir c.args.naming.name.now c.args.naming.found c.args.naming.block)
    (sym c.in_ok-apply_followed.ensures.applies.ok) made in
    record {
      listed = true_named c.self.inside.names c.enter.new.self s
          (g.F.FileStore.state c.apply_followed.new.store).content c.args.naming.dir c.args.naming.name.now c.args.naming.found
          c.enter.ensures.entered c.enter.ensures.others finds c.self.invariant.listed;
      shown = c.in_ok-apply_followed.ensures.shown c.self.invariant.shown;
      full = c.in_ok-apply_followed.ensures.full c.self.invariant.full;
      placed = c.in_ok-apply_followed.ensures.placed c.self.invariant.placed made.stands;
    }
