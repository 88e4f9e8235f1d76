-- What is told of callers: those who are in some groups and not in others, and how the rules decide their call.
use Rattle.std.specs.Prelude.{ℕ, ◌&&◌, ◌≡◌, ◌++◌, not, Bool, List, [], ◌∷◌, Option, Some, if◌then◌else◌}
use Rattle.std.specs.List.{list_all, list_any}
use Rattle.lfs_types.specs.Caller.{Caller}
use Rattle.lfs_types.specs.declared.rule.Denial.{Denial}
use Rattle.lfs_rules.specs.Owners.{is_in_group}
use Rattle.lfs_who.specs.Conditions.{is_met}
use Rattle.lfs_who.specs.declared.condition.Outcome.{Outcome}

-- the groups that a caller is in, those that he isn't in, and the denial of his call, or None where the rules allow it
pub record Told : Type 0 where
  pub inside : List ℕ
  pub outside : List ℕ
  pub denial : Option Denial

-- whether a caller is in each of some groups and in none of others
abbrev pub fits : Caller → List ℕ → List ℕ → Bool
fits c inside outside = list_all (λ g. is_in_group c g) inside
    && not (list_any (λ g. is_in_group c g) outside)

-- the decisions of the lines that a caller fits
abbrev pub told_to : Caller → List Told → List (Option Denial)
told_to c [] = []
told_to c (line ∷ lines) = if fits c line.inside line.outside then line.denial ∷ told_to c lines
    else told_to c lines

-- a decision of a caller who is in each of some groups and in none of others, and none of any other
abbrev pub left : Caller → List ℕ → List ℕ → Option Denial → List (Option Denial)
left c inside outside decision = if fits c inside outside then decision ∷ [] else []

-- The callers who fit some groups are told apart by an outcome: whatever the decision of those for whom it is met, the
-- lines and those who are left tell each caller what the old ones told him; or nobody is left.
abbrev pub IsSplit : Outcome → Denial → List Told → List ℕ → List ℕ → List Told → List ℕ → List ℕ
    → Bool → Type 0
IsSplit outcome denial lines inside outside now within without ends =
    (c : Caller) (rest : Option Denial)
    → told_to c lines ++ left c inside outside (if is_met c outcome then rest else Some denial)
    ≡ told_to c now ++ (if ends then [] else left c within without rest)
