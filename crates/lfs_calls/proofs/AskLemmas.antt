-- What a judge gives back.
use Rattle.std.proofs.Common.{◌≡◌, List, Some, Result, Err, sym, subst}
use Rattle.lfs_types.specs.declared.rule.Denial.{Denial}
use Rattle.lfs_model.specs.Rules.{Check, Judges, first_failing}

-- the denial by the first test that fails
pub denies : {A : Type 0} (checks : List Check) (P : A → Type 0) {denial : Denial} {result : Result A Denial} → result
    ≡ Err denial → first_failing checks ≡ Some denial → Judges checks P result
denies checks P is fails = subst (Judges checks P) (sym is) fails
