use Rattle.std.proofs.Common.{◌≡◌, ℕ, Option, None, Some, refl, sym, ap, subst, ◌∙◌, length}
use Rattle.std.specs.Prelude.{IfSome, IfNone, ◌==◌}
use Rattle.lfs_model.proofs.EffectTree.{childless}
use Rattle.lfs_nodes.specs.declared.node.Hang.TheVariants.{Gone}
use Rattle.lfs_nodes.specs.Changes.{hung}
use Rattle.lfs_nodes.specs.Maps.{changed_at}
use Rattle.lfs_nodes.specs.Nodes.{AreNodes, known, live_row}
use Rattle.lfs_nodes.proofs.ChangeLemmas.{removed_nodes}
use Rattle.lfs_nodes.proofs.nodes.Nodes.removed.Goals as goal

pub returns-clause-nodes : goal.returns-clause-nodes
returns-clause-nodes c rows p n tree are parent hangs empty =
    let parts = c.self.inside.parts in
    let L = known c.unhang.new.self in
    removed_nodes parts c.self.invariant rows tree (subst (λ x. AreNodes rows (known x)) (sym c.self.view_is) are)
    (record { parent = c.args.parent.0; name = c.args.name }) p n
    (subst (λ x. live_row (known x c.args.parent.0) ≡ Some p) (sym c.self.view_is) parent) hangs
    (childless rows n (ap (λ xs. length xs == 0) empty)) L
    (λ k e. subst (λ o. IfSome o (λ id. (q : ℕ) → L q ≡ changed_at id (hung Gone) (known parts) q))
    (c.unhang.ensures.taken ∙ e) c.unhang.ensures.changed)
    (λ e. subst (λ o. IfNone o ((q : ℕ) → L q ≡ known parts q)) (c.unhang.ensures.taken ∙ e) c.unhang.ensures.none)
