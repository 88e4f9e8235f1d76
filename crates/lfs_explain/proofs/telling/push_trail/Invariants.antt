use Rattle.std.proofs.Common.{◌≡◌, ◌++◌, ◌-◌, drop}
use Rattle.lfs_explain.specs.Tables.{trail_tests}
use Rattle.lfs_explain.proofs.telling.push_trail.Given as goal

-- the checks so far and those of the other steps are the old ones and those of all steps
abbrev pub invariant-loop-at : goal.invariant-loop-at
invariant-loop-at l =
    l.checks.items ++ trail_tests l.cred l.path l.at (l.count - l.at) (drop l.at l.rows)
    ≡ l.fn.checks.items ++ trail_tests l.cred l.path 0 l.count l.rows
