use Rattle.std.proofs.Common.{◌≡◌, ℕ, Option, None, Some, sym, ap, ◌∙◌}
use Rattle.std.specs.HashMap as hash
use Rattle.std.specs.Prelude.{nat_eq}
use Rattle.lfs_types.proofs.Somewhere.{present}
use Rattle.lfs_nodes.specs.Changes.{hung, one_child_more, one_child_fewer, counted, opened}
use Rattle.lfs_nodes.specs.Maps.{node_at, nodes_in}
use Rattle.lfs_nodes.proofs.TableLemmas.{changed_there, changed_none}
use Rattle.lfs_nodes.proofs.table.Table.add_child.Goals as goal

pub returns-in-Some-clause-changed : goal.returns-in-Some-clause-changed
unfolding node_at
returns-in-Some-clause-changed c =
    let was : node_at c.args.self.now c.args.id ≡ Some c.in-Some.node.now = sym c.in-Some.ensures.value in
    let after = record c.in-Some.node.now { children = c.saturating_add-node.result } in
    let put = (c.get_mut.follows.holds after).3 (present was) in
    changed_there (node_at c.args.self.now) (node_at (record { nodes = c.get_mut.follows.lender after })) c.args.id
    one_child_more c.in-Some.node.now was
    (put.1 ∙ ap (λ (x : ℕ). Some (record c.in-Some.node.now { children = x })) c.saturating_add-node.ensures) put.2

pub returns-in-Some-clause-as_many : goal.returns-in-Some-clause-as_many
unfolding nodes_in
returns-in-Some-clause-as_many c = (c.get_mut.follows.holds
    (record c.in-Some.node.now { children = c.saturating_add-node.result })).2

pub returns-in_default-clause-changed : goal.returns-in_default-clause-changed
unfolding node_at
returns-in_default-clause-changed c =
    changed_none (node_at c.args.self.now) (node_at (record { nodes = c.get_mut.follows.lender-at-none })) c.args.id
    (one_child_more) (sym c.in_default.ensures.value)
    (λ q. ap (λ m. hash.get nat_eq m q) c.get_mut.follows.holds-at-none)
