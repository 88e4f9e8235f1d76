use Rattle.std.proofs.Common.{sym, subst}
use Rattle.lfs_types.specs.Changes.{applied}
use Rattle.lfs_types.specs.Tree.{Content}
use Rattle.lfs_calls.specs.Names.{MovesName}
use Rattle.lfs_calls.proofs.NameLemmas.{true_moved}
use Rattle.lfs_calls.proofs.cached_store.CachedStore.apply_moving.Goals as goal

pub invariant_of-self-2 : goal.invariant_of-self-2
invariant_of-self-2 g c =
    let s = (g.F.FileStore.state c.self.inside.store).content in
    let m = c.args.moving.now in
    let made = subst (λ x. MovesName (g.F.FileStore.state x).content
    (applied c.args.changes.now (g.F.FileStore.state x).content) m.old_dir m.old.now m.new_dir m.new.now m.number c.args.k)
    (sym c.self.view_is) c.requires.moves in
    let moves = subst (λ (x : Content). MovesName s x m.old_dir m.old.now m.new_dir m.new.now m.number c.args.k)
    (sym c.in_ok-apply_followed.ensures.applies.ok) made in
    record {
      listed = true_moved c.self.inside.names c.enter.new.self c.enter-2.new.self s
          (g.F.FileStore.state c.apply_followed.new.store).content m.old_dir m.old.now m.new_dir m.new.now m.number
          c.enter.ensures.entered c.enter.ensures.others c.enter-2.ensures.entered c.enter-2.ensures.others moves
          c.self.invariant.listed;
      shown = c.in_ok-apply_followed.ensures.shown c.self.invariant.shown;
      full = c.in_ok-apply_followed.ensures.full c.self.invariant.full;
      placed = c.in_ok-apply_followed.ensures.placed c.self.invariant.placed made.stands;
    }
