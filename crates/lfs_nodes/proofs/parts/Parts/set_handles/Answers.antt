use Rattle.std.proofs.Common.{◌≡◌, ℕ, refl, ap, ◌∙◌}
use Rattle.lfs_nodes.specs.Changes.{counted, opened}
use Rattle.lfs_nodes.specs.Maps.{node_at, id_at}
use Rattle.lfs_nodes.specs.Reads.{hang_in, number_in, children_in}
use Rattle.lfs_nodes.proofs.TableLemmas.{changed_keeps}
use Rattle.lfs_nodes.proofs.WholeLemmas.{whole_same}
use Rattle.lfs_nodes.proofs.parts.Parts.set_handles.Goals as goal

pub returns-clause-whole : goal.returns-clause-whole
returns-clause-whole c =
    let parts = c.args.self.now in
    let F = node_at parts.table in
    let E = node_at c.set_handles.new.self in
    let after = c.set_handles.ensures.changed in
    whole_same (λ q. hang_in (F q)) (λ q. number_in (F q)) (λ q. children_in (F q))
    (id_at parts.index) parts.next c.requires
    (λ q. hang_in (E q)) (λ q. number_in (E q)) (λ q. children_in (E q)) (id_at parts.index)
    (λ q. ap hang_in (after q) ∙ changed_keeps F c.args.id (opened c.args.handles) (λ n. n.hang) (λ n. refl) q)
    (λ q. ap number_in (after q) ∙ changed_keeps F c.args.id (opened c.args.handles) (λ n. n.row) (λ n. refl) q)
    (λ q. ap children_in (after q) ∙ changed_keeps F c.args.id (opened c.args.handles) (λ n. n.children) (λ n. refl) q)
    (λ p. refl)

pub returns-clause-children : goal.returns-clause-children
returns-clause-children c q = ap children_in (c.set_handles.ensures.changed q)
    ∙ changed_keeps (node_at c.args.self.now.table) c.args.id (opened c.args.handles) (λ n. n.children) (λ n. refl) q
