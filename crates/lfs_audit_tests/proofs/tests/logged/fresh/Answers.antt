use Rattle.std.proofs.Common.{◌≡◌, Result, Ok, IfOk, refl, ap, subst, ◌∙◌}
use Rattle.lfs_volume.proofs.OpeningLemmas.{shows_opening_state}
use Rattle.lfs_audit_tests.proofs.tests.logged.fresh.Goals as goal

-- what holds of a result that is Ok, holds of the value
of_ok : {T E : Type 0} (P : T → Type 0) (r : Result T E) (t : T) → r ≡ Ok t → IfOk r P → P t
of_ok {T} {E} P r t is held = subst (λ (x : Result T E). IfOk x P) is held

pub new-requires : goal.new-requires
new-requires g c = shows_opening_state _ _ (of_ok _ _ _ c.expect-store.ensures c.format.ensures.opening) refl

pub over-requires : goal.over-requires
over-requires g c =
    let fresh = of_ok _ _ _ c.expect-volume.ensures c.new.ensures.fresh in
    let own = of_ok _ _ _ c.expect-store.ensures c.format.ensures.base in
    ap (λ v. v.store.mark.is_whole) fresh ∙ ap (λ s. s.mark.is_whole) own
