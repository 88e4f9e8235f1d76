use Rattle.std.proofs.Common.{◌≡◌}
use Rattle.lfs_view.specs.Owners.{first_owners}
use Rattle.lfs_view.proofs.owners.owners.Given as goal

abbrev pub invariant-loop-segment : goal.invariant-loop-segment
invariant-loop-segment l = l.owners.items ≡ first_owners l.parts l.segment
