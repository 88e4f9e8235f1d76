use Rattle.std.proofs.Common.{◌≡◌, ℕ, Some, Ok, Err, sym, ap, subst, ◌∙◌}
use Rattle.lfs_types.specs.Tree.{root}
use Rattle.lfs_model.specs.Rules.{reached}
use Rattle.lfs_nodes.specs.declared.parts.Parts.{Parts}
use Rattle.lfs_nodes.specs.Ways.{NamesUp, NamesDown}
use Rattle.lfs_nodes.specs.Maps.{node_at}
use Rattle.lfs_nodes.specs.Nodes.{AreNodes, known, live_row}
use Rattle.lfs_nodes.specs.Reads.{hang_in}
use Rattle.lfs_nodes.proofs.NamesLemmas.{names_turned, names_lead}
use Rattle.lfs_nodes.proofs.nodes.Nodes.names.Goals as goal

pub returns-in-Ok-clause-way : goal.returns-in-Ok-clause-way
returns-in-Ok-clause-way c =
    subst (λ (x : Parts). NamesDown (λ q. hang_in (node_at x.table q)) c.args.node.0 (Ok c.reverse.new.self.items))
    c.self.view_is
    (names_turned (λ q. hang_in (node_at c.self.inside.parts.table q)) c.args.node.0 c.in-Ok.names.items
    c.reverse.new.self.items c.reverse.ensures.items c.in-Ok.ensures)

pub returns-in-Ok-clause-leads : goal.returns-in-Ok-clause-leads
returns-in-Ok-clause-leads c rows tree are =
    subst (λ (x : Parts). live_row (known x c.args.node.0)
    ≡ Some (reached rows root c.reverse.new.self.items)) c.self.view_is
    (names_lead c.self.inside.parts c.self.invariant rows tree
    (subst (λ x. AreNodes rows (known x)) (sym c.self.view_is) are)
    c.args.node.0 c.in-Ok.names.items c.reverse.new.self.items c.reverse.ensures.items c.in-Ok.ensures)

pub returns-in-Err-clause-way : goal.returns-in-Err-clause-way
returns-in-Err-clause-way c =
    subst (λ (x : Parts). NamesUp (λ q. hang_in (node_at x.table q)) c.args.node.0 (Err c.in-Err.fault)) c.self.view_is
    c.in-Err.ensures
