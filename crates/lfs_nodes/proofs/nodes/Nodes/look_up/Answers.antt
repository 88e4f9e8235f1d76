use Rattle.std.proofs.Common.{◌≡◌, ℕ, Some, sym, subst}
use Rattle.lfs_nodes.specs.Nodes.{AreNodes, known, live_row}
use Rattle.lfs_nodes.proofs.ChangeLemmas.{looked_up_nodes}
use Rattle.lfs_nodes.proofs.nodes.Nodes.look_up.Goals as goal

pub returns-clause-nodes : goal.returns-clause-nodes
returns-clause-nodes c rows p tree are parent hangs =
    looked_up_nodes c.self.inside.parts c.find.new.self c.self.invariant rows tree
    (subst (λ x. AreNodes rows (known x)) (sym c.self.view_is) are)
    (record { parent = c.args.parent.0; name = c.args.name }) p c.args.row
    (subst (λ x. live_row (known x c.args.parent.0) ≡ Some p) (sym c.self.view_is) parent) hangs
    c.find.result c.find.ensures.again c.find.ensures.fresh c.find.ensures.others c.find.ensures.failed
