-- Plans as contracts see them.
use Rattle.std.specs.Prelude.{ℕ, ◌≤◌, List}
use Rattle.std.specs.List.{All}
use Rattle.lfs_types.specs.Caller.{Caller}
use Rattle.lfs_script.specs.declared.plan.Step.{Step}

-- the steps of a script, and the highest session that it names
pub record Planned : Type 0 where
  pub steps : List Step
  pub sessions : ℕ

-- no step is of a session above this one
abbrev pub AreWithin : List Step → ℕ → Type 0
AreWithin steps highest = All (λ step. step.session ≤ highest) steps

-- the plan of some lines, and the session and the caller of the lines that follow
pub record Drafted : Type 0 where
  pub session : ℕ
  pub cred : Caller
  pub sessions : ℕ
  pub steps : List Step
