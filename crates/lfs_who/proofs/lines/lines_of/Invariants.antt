use Rattle.std.proofs.Common.{◌≡◌, [], ◌∷◌, ◌++◌, drop}
use Rattle.std.specs.List.{All}
use Rattle.lfs_types.specs.Caller.{Caller}
use Rattle.lfs_model.specs.Rules.{first_failing}
use Rattle.lfs_who.specs.Conditions.{IsUser, all_posed}
use Rattle.lfs_who.specs.Lines.{left, told_to}
use Rattle.lfs_who.specs.declared.condition.Question.{Question as Asked}
use Rattle.lfs_who.proofs.lines.lines_of.Given as goal

-- what the lines and those who are left tell a caller is how all that is asked decides
abbrev pub invariant-loop-question : goal.invariant-loop-question
invariant-loop-question l =
    (c : Caller) → All (λ (q : Asked). IsUser l.fn.user c q.condition) l.questions
    → told_to c l.lines.items ++ left c l.groups.inside.items l.groups.outside.items
    (first_failing (all_posed c (drop l.question-index l.questions)))
    ≡ first_failing (all_posed c l.questions) ∷ []
