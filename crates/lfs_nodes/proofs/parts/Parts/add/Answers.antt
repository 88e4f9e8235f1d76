use Rattle.std.proofs.Common.{◌≡◌, ℕ, ◌+◌, ◌≤◌, Option, None, Some, refl, ap, ◌∙◌, arith}
use Rattle.lfs_nodes.specs.declared.node.Hang.TheVariants.{Gone}
use Rattle.lfs_nodes.specs.Maps.{node_at, id_at}
use Rattle.lfs_nodes.specs.Reads.{hang_in, number_in, children_in}
use Rattle.lfs_nodes.specs.Holds.{fresh}
use Rattle.lfs_nodes.proofs.WholeLemmas.{whole_grown}
use Rattle.lfs_nodes.proofs.parts.Parts.add.Goals as goal

pub returns-clause-whole : goal.returns-clause-whole
returns-clause-whole c =
    let parts = c.args.self.now in
    let F = node_at parts.table in
    let E = node_at c.put.new.self in
    let made : E parts.next ≡ Some (fresh Gone c.args.row) = c.put.ensures.there ∙ ap Some c.new.ensures in
    whole_grown (λ q. hang_in (F q)) (λ q. number_in (F q)) (λ q. children_in (F q))
    (id_at parts.index) parts.next c.requires.whole
    (λ q. hang_in (E q)) (λ q. number_in (E q)) (λ q. children_in (E q)) (id_at parts.index)
    (ap hang_in made) (λ q ne. ap hang_in (c.put.ensures.others q ne))
    (λ q ne. ap number_in (c.put.ensures.others q ne))
    (ap children_in made) (omega arith) (λ q ne. ap children_in (c.put.ensures.others q ne)) (λ p. refl)
