use Rattle.std.proofs.Common.{◌≡◌, [], drop}
use Rattle.lfs_why.specs.WhyText.{paths_of, with_checks}
use Rattle.lfs_why.proofs.lines.tell_explanation.Given as goal

-- the lines so far with those of the other checks are the lines of all
abbrev pub invariant-loop-check : goal.invariant-loop-check
invariant-loop-check l =
    with_checks l.text.items l.cred (paths_of l.request l.explanation) (drop l.check-index l.explanation.checks.items)
    ≡ with_checks [] l.cred (paths_of l.request l.explanation) l.explanation.checks.items
