use Rattle.std.proofs.Common.{◌≡◌, ℕ, Option, None, Some, sym, ap, ◌∙◌}
use Rattle.std.specs.HashMap as hash
use Rattle.std.specs.Prelude.{nat_eq}
use Rattle.lfs_types.proofs.Somewhere.{present}
use Rattle.lfs_nodes.specs.Changes.{hung, one_child_more, one_child_fewer, counted, opened}
use Rattle.lfs_nodes.specs.declared.node.Hang.{Hang}
use Rattle.lfs_nodes.specs.Reads.{hang_in}
use Rattle.lfs_nodes.specs.Maps.{node_at, nodes_in, spare_in}
use Rattle.lfs_nodes.proofs.TableLemmas.{changed_there, changed_none}
use Rattle.lfs_nodes.proofs.table.Table.hang.Goals as goal

pub returns-in-Some-clause-changed : goal.returns-in-Some-clause-changed
unfolding node_at
returns-in-Some-clause-changed c =
    let was : node_at c.args.self.now c.args.id ≡ Some c.in-Some.node.now = sym c.in-Some.ensures.value in
    let after = record c.in-Some.node.now { hang = c.replace.new.dest } in
    let put = (c.get_mut.follows.holds after).3 (present was) in
    changed_there (node_at c.args.self.now) (node_at (record { nodes = c.get_mut.follows.lender after })) c.args.id
    (hung c.args.hang) c.in-Some.node.now was
    (put.1 ∙ ap (λ (h : Hang). Some (record c.in-Some.node.now { hang = h })) c.replace.ensures.after) put.2

pub returns-in-Some-clause-as_many : goal.returns-in-Some-clause-as_many
unfolding nodes_in
returns-in-Some-clause-as_many c = (c.get_mut.follows.holds (record c.in-Some.node.now { hang = c.replace.new.dest })).2

pub returns-in-None-clause-changed : goal.returns-in-None-clause-changed
unfolding node_at
returns-in-None-clause-changed c =
    changed_none (node_at c.args.self.now) (node_at (record { nodes = c.get_mut.follows.lender-at-none })) c.args.id
    (hung c.args.hang) (sym c.in-None.ensures.value)
    (λ q. ap (λ m. hash.get nat_eq m q) c.get_mut.follows.holds-at-none)

pub returns-in-Some-clause-was : goal.returns-in-Some-clause-was
unfolding node_at
returns-in-Some-clause-was c = ap Some c.replace.ensures.value ∙ ap hang_in c.in-Some.ensures.value

pub returns-in-None-clause-was : goal.returns-in-None-clause-was
unfolding node_at
returns-in-None-clause-was c = ap hang_in c.in-None.ensures.value

pub returns-in-Some-clause-spare : goal.returns-in-Some-clause-spare
unfolding spare_in
returns-in-Some-clause-spare c = (c.get_mut.follows.holds (record c.in-Some.node.now { hang = c.replace.new.dest })).6
