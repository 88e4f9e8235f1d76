use Rattle.std.proofs.Common.{◌≡◌, [], ◌∷◌, ◌++◌, ◌<◌, length, get_or, set, Option, Some, None, subst, sym, ap, ◌∙◌}
use Rattle.std.proofs.Common.{arith}
use Rattle.std.proofs.lemmas.List.{get_or_default}
use Rattle.lfs_recovery.specs.declared.places.RecordPlace.{RecordPlace}
use Rattle.lfs_recovery.specs.Course.{listed}
use Rattle.lfs_recovery.specs.Noted.{IsTable, newer}
use Rattle.lfs_recovery.proofs.NewestLemmas.{noted_more}
use Rattle.lfs_recovery.proofs.newest.note.Goals as goal

pub returns-in-Some-clause-noted : goal.returns-in-Some-clause-noted
returns-in-Some-clause-noted c = λ places is.
    let old = c.args.table.now.items in
    let place = c.in-Some.place in
    let long = is.long in
    let below = rw c.in-Some.is at c.requires.below in
    let inside : place.number < length old = omega arith in
    let before : c.index.result.now ≡ get_or old place.number None =
    c.index.ensures ∙ get_or_default old place.number c.index.result.now None inside in
    let noted : IsTable (set old place.number (Some c.newer.result)) (places ++ place ∷ []) =
    subst (λ (r : RecordPlace). IsTable (set old place.number (Some r)) (places ++ place ∷ []))
    (sym (c.newer.ensures ∙ ap (λ (o : Option RecordPlace). newer o place) before))
    (noted_more old places place inside is) in
    subst (λ (o : Option RecordPlace). IsTable (set old place.number (Some c.newer.result)) (places ++ listed o))
    (sym c.in-Some.is) noted
