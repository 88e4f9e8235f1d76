use Rattle.std.proofs.Common.{◌≡◌, IfOk, Result, Ok, Err, subst, sym}
use Rattle.lfs_durable.proofs.KeptLemmas.{fresh_can_be_found}
use Rattle.lfs_durable_store.proofs.store.DurableStore.format.Goals as goal

pub over-requires-clause-found : goal.over-requires-clause-found
over-requires-clause-found c =
    let p = c.args.params in
    let made = c.in_ok-store.ensures in
    fresh_can_be_found c.in_ok-store.store p.segments p.inodes p.frames made.laid_out made.whole made.ordered

-- a result that is Ok is no fault
no_fault : {T E : Type 0} (t : T) (e : E) → Ok t ≡ Err e → ⊥
no_fault {T} {E} t e same = subst (λ (r : Result T E). IfOk r (λ _. ⊥)) (sym same) tt

pub returns-clause-too_few : goal.returns-clause-too_few
returns-clause-too_few c = (
  λ is. absurd (no_fault _ _ is),
  λ few. absurd (no_fault _ _ (c.in_ok-store.ensures.too_few.1 few)),
)

pub returns-clause-too_many : goal.returns-clause-too_many
returns-clause-too_many c = (
  λ is. absurd (no_fault _ _ is),
  λ many. absurd (no_fault _ _ (c.in_ok-store.ensures.too_many.1 many)),
)
