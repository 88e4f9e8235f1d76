use Rattle.std.proofs.Common.{◌≡◌, ◌≢◌, ℕ, None, Some, ap, ◌∙◌}
use Rattle.lfs_nodes.specs.declared.place.TheConstants.{ROOT_ID}
use Rattle.lfs_nodes.specs.Holds.{root_node}
use Rattle.lfs_nodes.specs.Maps.{node_at, id_at}
use Rattle.lfs_nodes.specs.Reads.{hang_in, number_in, children_in}
use Rattle.lfs_nodes.proofs.WholeLemmas.{whole_alone}
use Rattle.lfs_nodes.proofs.nodes.Nodes.new.Goals as goal

pub invariant_of-result : goal.invariant_of-result
invariant_of-result c =
    let F = node_at c.put.new.self in
    let made : F ROOT_ID ≡ Some root_node = c.put.ensures.there ∙ ap Some c.root.ensures in
    let none = λ (q : ℕ) (ne : q ≢ ROOT_ID). c.put.ensures.others q ne ∙ c.reserve.ensures.same q
    ∙ c.new-table.ensures q in
    whole_alone (λ q. hang_in (F q)) (λ q. number_in (F q)) (λ q. children_in (F q)) (id_at c.new.result)
    (ap hang_in made) (ap number_in made) (ap children_in made) (λ q ne. ap hang_in (none q ne))
    (λ q ne. ap children_in (none q ne)) c.new.ensures
