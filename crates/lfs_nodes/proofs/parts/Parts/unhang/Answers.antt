use Rattle.std.proofs.Common.{◌≡◌, ◌≢◌, ℕ, ◌+◌, ◌-◌, ◌≤◌, Option, None, Some, sym, ap, ◌∙◌, arith}
use Rattle.std.specs.Prelude.{IsSome}
use Rattle.lfs_nodes.specs.declared.node.Hang.TheVariants.{Gone}
use Rattle.lfs_nodes.specs.Maps.{node_at, id_at}
use Rattle.lfs_nodes.specs.Reads.{hang_in, number_in, children_in}
use Rattle.lfs_nodes.proofs.TableLemmas.{rehung_here, rehung_else, rehung_rows, recounted_here, recounted_else}
use Rattle.lfs_nodes.proofs.TableLemmas.{hung_known}
use Rattle.lfs_nodes.proofs.WholeLemmas.{whole_unhung}
use Rattle.lfs_nodes.proofs.parts.Parts.unhang.Goals as goal

pub returns-clause-whole : goal.returns-clause-whole
returns-clause-whole c =
    let parts = c.args.self.now in
    let F = node_at parts.table in
    let G = node_at c.hang.new.self in
    let E = node_at c.drop_child.new.self in
    let p = c.args.place.now.parent in
    let id = c.in_ok-id.id in
    let g = λ (n : ℕ). n - 1 in
    let first = c.hang.ensures.changed in
    let second = c.drop_child.ensures.changed in
    let at : id_at parts.index c.args.place.now ≡ Some id = sym c.take.ensures.taken ∙ c.in_ok-id.was in
    whole_unhung (λ q. hang_in (F q)) (λ q. number_in (F q)) (λ q. children_in (F q))
    (id_at parts.index) parts.next c.requires
    c.args.place.now id at
    (λ q. hang_in (E q)) (λ q. number_in (E q)) (λ q. children_in (E q)) (id_at c.take.new.self)
    (rehung_here F G E id p Gone g first second
    (hung_known (F id) c.args.place.now (c.requires.named c.args.place.now id at)))
    (rehung_else F G E id p Gone g first second)
    (rehung_rows F G E id p Gone g first second)
    (recounted_here F G E id p Gone g first second)
    (recounted_else F G E id p Gone g first second)
    c.take.ensures.gone
    c.take.ensures.others

pub returns-clause-nowhere : goal.returns-clause-nowhere
returns-clause-nowhere c =
    let parts = c.args.self.now in
    let F = node_at parts.table in
    let id = c.in_ok-id.id in
    let g = λ (n : ℕ). n - 1 in
    let at : id_at parts.index c.args.place.now ≡ Some id = sym c.take.ensures.taken ∙ c.in_ok-id.was in
    rehung_here F (node_at c.hang.new.self) (node_at c.drop_child.new.self) id c.args.place.now.parent Gone g
    c.hang.ensures.changed c.drop_child.ensures.changed
    (hung_known (F id) c.args.place.now (c.requires.named c.args.place.now id at))
