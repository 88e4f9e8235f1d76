use Rattle.std.proofs.Common.{◌≡◌, drop}
use Rattle.lfs_model.specs.Rules.{first_failing}
use Rattle.lfs_explain.proofs.explain.Explanation.verdict.Given as goal

-- the first that fails of all is that of the rest
abbrev pub invariant-loop-check : goal.invariant-loop-check
invariant-loop-check l = first_failing l.self.checks.items ≡ first_failing (drop l.check-index l.self.checks.items)
