use Rattle.std.proofs.Common.{◌≡◌, ◌≢◌, ℕ, ◌-◌, Option, None, Some, sym, ap, ◌∙◌, refl, ⊎_elim}
use Rattle.std.proofs.lemmas.Bool.{cases_eq}
use Rattle.std.specs.Option.{option_map}
use Rattle.lfs_nodes.specs.declared.node.Hang.TheVariants.{Gone}
use Rattle.lfs_nodes.specs.Changes.{hung}
use Rattle.lfs_nodes.specs.Maps.{node_at, id_at}
use Rattle.lfs_nodes.specs.Places.{place_of}
use Rattle.lfs_nodes.specs.Reads.{hang_in, number_in, children_in}
use Rattle.lfs_nodes.proofs.TableLemmas.{rehung_here, rehung_else, rehung_rows, recounted_here, recounted_else}
use Rattle.lfs_nodes.proofs.TableLemmas.{hung_known, still_gone, changed_here, changed_else, changed_keeps}
use Rattle.lfs_nodes.proofs.WholeLemmas.{whole_unhung, whole_same}
use Rattle.lfs_nodes.proofs.parts.Parts.lift.Goals as goal

pub returns-clause-whole : goal.returns-clause-whole
returns-clause-whole c =
    let parts = c.args.self.now in
    let F = node_at parts.table in
    let G = node_at c.hang.new.self in
    let E = node_at c.drop_child.new.self in
    let place = c.in_ok-place.place in
    let id = c.args.id in
    let g = λ (n : ℕ). n - 1 in
    let first = c.hang.ensures.changed in
    let second = c.drop_child.ensures.changed in
    let hangs : place_of (hang_in (F id)) ≡ Some place = sym (ap place_of c.hang.ensures.was) ∙ sym c.place_of.ensures
    ∙ c.in_ok-place.was in
    whole_unhung (λ q. hang_in (F q)) (λ q. number_in (F q)) (λ q. children_in (F q))
    (id_at parts.index) parts.next c.requires.whole
    place id (c.requires.whole.indexed id place hangs)
    (λ q. hang_in (E q)) (λ q. number_in (E q)) (λ q. children_in (E q)) (id_at c.take.new.self)
    (rehung_here F G E id place.parent Gone g first second (hung_known (F id) place hangs))
    (rehung_else F G E id place.parent Gone g first second)
    (rehung_rows F G E id place.parent Gone g first second)
    (recounted_here F G E id place.parent Gone g first second)
    (recounted_else F G E id place.parent Gone g first second)
    c.take.ensures.gone
    c.take.ensures.others

pub returns-clause-childless : goal.returns-clause-childless
returns-clause-childless c none =
    let F = node_at c.args.self.now.table in
    let G = node_at c.hang.new.self in
    let E = node_at c.drop_child.new.self in
    let p = c.in_ok-place.place.parent in
    let g = λ (n : ℕ). n - 1 in
    ⊎_elim
    (λ e. ap (λ x. children_in (E x)) e ∙ recounted_here F G E c.args.id p Gone g c.hang.ensures.changed
    c.drop_child.ensures.changed
    ∙ ap (option_map g) (ap (λ x. children_in (F x)) (sym e) ∙ none))
    (λ ne. recounted_else F G E c.args.id p Gone g c.hang.ensures.changed c.drop_child.ensures.changed c.args.id ne
    ∙ none)
    (cases_eq c.args.id p)

pub returns-in_err-place-clause-whole : goal.returns-in_err-place-clause-whole
returns-in_err-place-clause-whole c =
    let parts = c.args.self.now in
    let F = node_at parts.table in
    let E = node_at c.hang.new.self in
    let id = c.args.id in
    let after = c.hang.ensures.changed in
    let nowhere : place_of (hang_in (F id)) ≡ None = sym (ap place_of c.hang.ensures.was) ∙ sym c.place_of.ensures
    ∙ c.in_err-place.was in
    whole_same (λ q. hang_in (F q)) (λ q. number_in (F q)) (λ q. children_in (F q))
    (id_at parts.index) parts.next c.requires.whole
    (λ q. hang_in (E q)) (λ q. number_in (E q)) (λ q. children_in (E q)) (id_at parts.index)
    (λ q. ⊎_elim
    (λ e. ap (λ x. hang_in (E x)) e ∙ ap hang_in (after id ∙ changed_here F id (hung Gone))
    ∙ still_gone (F id) nowhere c.requires.below ∙ ap (λ x. hang_in (F x)) (sym e))
    (λ ne. ap hang_in (after q ∙ changed_else F id (hung Gone) q ne))
    (cases_eq q id))
    (λ q. ap number_in (after q) ∙ changed_keeps F id (hung Gone) (λ n. n.row) (λ n. refl) q)
    (λ q. ap children_in (after q) ∙ changed_keeps F id (hung Gone) (λ n. n.children) (λ n. refl) q)
    (λ p. refl)
