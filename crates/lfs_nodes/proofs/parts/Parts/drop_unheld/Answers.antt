use Rattle.std.proofs.Common.{◌≡◌, ◌≢◌, ℕ, ◌-◌, Option, None, Some, false, sym, ap, ◌∙◌, refl}
use Rattle.lfs_nodes.specs.declared.node.Hang.TheVariants.{Gone}
use Rattle.std.specs.Option.{option_map, option_copied}
use Rattle.lfs_nodes.specs.Changes.{hung}
use Rattle.lfs_nodes.specs.Holds.{node_is_held}
use Rattle.lfs_nodes.specs.Nodes.{known, shown}
use Rattle.lfs_nodes.proofs.HoldsLemmas.{hang_shown, unheld_childless}
use Rattle.lfs_nodes.proofs.TableLemmas.{changed_here}
use Rattle.lfs_nodes.specs.Maps.{node_at, id_at}
use Rattle.lfs_nodes.specs.Reads.{hang_in, number_in, children_in}
use Rattle.lfs_nodes.proofs.WholeLemmas.{whole_dropped}
use Rattle.lfs_nodes.proofs.parts.Parts.drop_unheld.Goals as goal

pub returns-clause-whole : goal.returns-clause-whole
returns-clause-whole c =
    let parts = c.lift-parent.new.self in
    let F = node_at parts.table in
    let E = node_at c.take.new.self in
    let K = known c.args.self.now in
    let unheld : node_is_held c.in_ok-node.node.now ≡ false = sym c.is_held.ensures ∙ c.if-is_held.false in
    let node : node_at c.args.self.now.table c.args.id ≡ Some c.in_ok-node.node.now = sym c.get.ensures
    ∙ ap option_copied c.in_ok-node.was in
    let gone : hang_in (known parts c.args.id) ≡ Some Gone =
    ap hang_in (c.lift-parent.ensures.changed c.args.id ∙ changed_here K c.args.id (hung Gone))
    ∙ ap (λ o. hang_in (option_map (hung Gone) (option_map shown o))) node in
    whole_dropped (λ q. hang_in (F q)) (λ q. number_in (F q)) (λ q. children_in (F q))
    (id_at parts.index) parts.next c.lift-parent.ensures.whole
    c.args.id (sym (hang_shown (F c.args.id)) ∙ gone)
    (c.lift-parent.ensures.childless (ap children_in node
    ∙ ap Some (unheld_childless c.in_ok-node.node.now unheld)))
    (λ q. hang_in (E q)) (λ q. number_in (E q)) (λ q. children_in (E q)) (id_at parts.index)
    (ap hang_in c.take.ensures.gone) (λ q ne. ap hang_in (c.take.ensures.others q ne))
    (λ q ne. ap number_in (c.take.ensures.others q ne))
    (ap children_in c.take.ensures.gone) (λ q ne. ap children_in (c.take.ensures.others q ne)) (λ p. refl)
