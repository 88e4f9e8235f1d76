use Rattle.std.proofs.Common.{◌≡◌, ℕ, Bool, true, false, cond, [], ◌∷◌, None, Some, refl, ap, ◌∙◌}
use Rattle.std.specs.Prelude.{not}
use Rattle.lfs_types.specs.declared.rule.Rule.{Rule}
use Rattle.lfs_types.specs.declared.rule.Rule.TheVariants.{IsOwner, KeepsSystemLocks, MaySetFlags}
use Rattle.lfs_model.specs.Rules.{asks}
use Rattle.lfs_explain.specs.Asked.{asked}
use Rattle.lfs_explain.proofs.privileged.chflags.Goals as goal

-- where neither of the first two denies, the third does
third : (a b k : Bool) (r : Rule) (at : ℕ) → Some r
    ≡ cond (not a) (Some IsOwner) (cond (not b) (Some MaySetFlags) (cond k None (Some KeepsSystemLocks)))
    → (r ≡ IsOwner → ⊥) → (r ≡ MaySetFlags → ⊥)
    → asked (asks true IsOwner 0 at ∷ asks true MaySetFlags 0 at ∷ asks false KeepsSystemLocks 0 at ∷ [])
    ≡ asked (asks a IsOwner 0 at ∷ asks b MaySetFlags 0 at ∷ asks k KeepsSystemLocks 0 at ∷ [])
third false b k r at h first second = let same : r ≡ IsOwner = cc in absurd (first same)
third true false k r at h first second = let same : r ≡ MaySetFlags = cc in absurd (second same)
third true true false r at h first second = refl
third true true true r at h first second = absurd (cc)

pub returns-in_default-unmet : goal.returns-in_default-unmet
returns-in_default-unmet c =
    ap asked c.flag_checks-in_default-unmet.ensures
    ∙ third _ _ _ c.in-Some.unmet c.args.at c.in-Some.ensures c.in_default-unmet.not-IsOwner
    c.in_default-unmet.not-MaySetFlags
