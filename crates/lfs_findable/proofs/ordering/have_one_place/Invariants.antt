use Rattle.lfs_findable.proofs.OrderLemmas.{IsTableOf}
use Rattle.lfs_findable.proofs.ordering.have_one_place.Given as goal

-- the table has the places of those so far, and no others
abbrev pub invariant-loop-index : goal.invariant-loop-index
invariant-loop-index l = IsTableOf l.partials l.places l.index
