use Rattle.std.proofs.Common.{◌≡◌, length}
use Rattle.lfs_opens.specs.Opens.{first_to_write}
use Rattle.lfs_opens.proofs.opens.first_to_write.Given as goal

abbrev pub invariant-loop-first : goal.invariant-loop-first
invariant-loop-first l = first_to_write l.rest l.node l.cred ≡ first_to_write l.files l.node l.cred

abbrev pub decreases-loop-first : goal.decreases-loop-first
decreases-loop-first l = length l.rest
