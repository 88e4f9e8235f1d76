-- What a call that is done leaves, and what holds of an outcome that is known.
use Rattle.std.proofs.Common.{◌≡◌, Result, Ok, Err, IfErr, IfOk, subst}
use Rattle.std.specs.Prelude.{OnOk}

pub ok_map : {A E P Q : Type 0} (result : Result A E) → (P → Q) → OnOk result P → OnOk result Q
ok_map (Ok done) map holds = map holds
ok_map (Err fault) map holds = holds

pub ok_at : {A E : Type 0} (P : A → Type 0) (result : Result A E) (done : A) → result ≡ Ok done → IfOk result P → P done
ok_at {A} {E} P result done is holds = subst (λ (r : Result A E). IfOk r P) is holds

pub err_at : {A E : Type 0} (P : E → Type 0) (result : Result A E) (fault : E) → result ≡ Err fault → IfErr result P
    → P fault
err_at {A} {E} P result fault is holds = subst (λ (r : Result A E). IfErr r P) is holds
