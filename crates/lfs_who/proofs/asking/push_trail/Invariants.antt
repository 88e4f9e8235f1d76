use Rattle.std.proofs.Common.{◌≡◌, ◌++◌, ◌-◌, drop}
use Rattle.lfs_types.specs.Caller.{Caller}
use Rattle.lfs_explain.specs.Tables.{trail_tests}
use Rattle.lfs_who.specs.Conditions.{all_posed}
use Rattle.lfs_who.proofs.asking.push_trail.Given as goal

-- the questions so far and those of the other steps are the old ones and those of all steps
abbrev pub invariant-loop-at : goal.invariant-loop-at
invariant-loop-at l =
    (c : Caller) → all_posed c l.questions.items ++ trail_tests c l.path l.at (l.count - l.at) (drop l.at l.rows)
    ≡ all_posed c l.fn.questions.items ++ trail_tests c l.path 0 l.count l.rows
