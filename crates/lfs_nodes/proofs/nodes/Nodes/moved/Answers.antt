use Rattle.std.proofs.Common.{◌≡◌, ◌≢◌, ℕ, Option, Some, refl, sym, ap, subst, ◌∙◌, ⊎_elim}
use Rattle.lfs_types.proofs.Somewhere.{present}
use Rattle.lfs_model.specs.World.{child}
use Rattle.lfs_nodes.specs.declared.place.Place.{Place}
use Rattle.lfs_nodes.specs.Nodes.{AreNodes, known, live_row}
use Rattle.lfs_nodes.proofs.MovedLemmas.{stayed_nodes, renamed_nodes, live_known}
use Rattle.lfs_nodes.proofs.PlaceLemmas.{cases_place}
use Rattle.lfs_nodes.proofs.nodes.Nodes.moved.Goals as goal

pub returns-clause-nodes : goal.returns-clause-nodes
returns-clause-nodes c w p t n tree are up down hangs empty =
    let parts = c.self.inside.parts in
    let from : Place = record { parent = c.args.renaming.from.0; name = c.args.renaming.name } in
    let to : Place = record { parent = c.args.renaming.to.0; name = c.args.renaming.new_name } in
    let are2 = subst (λ x. AreNodes w.rows (known x)) (sym c.self.view_is) are in
    let up2 = subst (λ x. live_row (known x c.args.renaming.from.0) ≡ Some p) (sym c.self.view_is) up in
    let down2 = subst (λ x. live_row (known x c.args.renaming.to.0) ≡ Some t) (sym c.self.view_is) down in
    let L = known c.rehang.new.self in
    ⊎_elim
    (λ same. stayed_nodes parts c.self.invariant w tree are2 from to p t n up2 down2 hangs same L
    (c.rehang.ensures.stays same) (child w.rows t to.name) refl)
    (λ apart. renamed_nodes parts c.self.invariant w tree are2 from to p t n up2 down2 hangs apart empty L
    (c.rehang.ensures.moved apart (live_known parts to.parent t down2)) (child w.rows t to.name) refl)
    (cases_place from to)
