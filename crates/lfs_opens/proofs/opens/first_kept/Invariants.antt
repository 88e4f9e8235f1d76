use Rattle.std.proofs.Common.{◌≡◌, length}
use Rattle.lfs_opens.specs.Opens.{first_kept}
use Rattle.lfs_opens.proofs.opens.first_kept.Given as goal

abbrev pub invariant-loop-first : goal.invariant-loop-first
invariant-loop-first l = first_kept l.rest l.node l.cred ≡ first_kept l.files l.node l.cred

abbrev pub decreases-loop-first : goal.decreases-loop-first
decreases-loop-first l = length l.rest
