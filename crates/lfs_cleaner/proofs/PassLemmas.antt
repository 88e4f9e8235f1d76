-- The infos whose address is unchanged, pair by pair, and how many calls a pass may still make.
use Rattle.std.proofs.Common.{◌≡◌, ℕ, ◌≤◌, ◌⊎◌, List, [], ◌∷◌, ◌++◌, length, sym}
use Rattle.std.proofs.Common.{subst, ◌∙◌, inl, inr, arith}
use Rattle.std.proofs.lemmas.List.{append-nil}
use Rattle.lfs_types.specs.declared.cleaner.BlockInfo.{BlockInfo}
use Rattle.lfs_types.specs.declared.cleaner.CleanerCall.{CleanerCall}
use Rattle.lfs_cleaner.specs.Passing.{MayCall, calls_left, unchanged}
use Rattle.lfs_cleaner.specs.declared.pass.Pass.{Pass}

-- nothing is left to compare
pub unchanged_ended : (left asked present all : List BlockInfo) → (asked ≡ []) ⊎ (present ≡ []) → left
    ++ unchanged asked present ≡ all → left ≡ all
unchanged_ended left [] present all none is = sym (append-nil left) ∙ is
unchanged_ended left (x ∷ asked) [] all none is = sym (append-nil left) ∙ is
unchanged_ended left (x ∷ asked) (y ∷ present) all (inl none) is = absurd (cc)
unchanged_ended left (x ∷ asked) (y ∷ present) all (inr none) is = absurd (cc)

-- the calls of a pass are no more than are left to it
pub no_more_calls : (calls : List CleanerCall) (pass : Pass) → MayCall pass calls → length calls ≤ calls_left pass
no_more_calls [] pass may = omega arith
no_more_calls (made ∷ calls) pass may =
    let fewer = may.3 in
    let rest = no_more_calls calls may.1 may.4 in
    omega arith

pub few_calls : (pass : Pass) → calls_left pass ≡ 105 → (calls : List CleanerCall) → MayCall pass calls
    → length calls ≤ 105
few_calls pass left calls may = subst (λ (n : ℕ). length calls ≤ n) left (no_more_calls calls pass may)
