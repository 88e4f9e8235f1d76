use Rattle.std.proofs.Common.{◌<◌, ℕ, get_or}
use Rattle.lfs_recovery.specs.declared.places.PartialSegment.{PartialSegment}
use Rattle.lfs_findable.specs.Judging.{IsNextMarked}
use Rattle.lfs_findable.proofs.listing.are_next_marked.Given as goal

-- so it is behind those so far
abbrev pub invariant-loop-index : goal.invariant-loop-index
invariant-loop-index l = (k : ℕ) (d : PartialSegment) → k < l.index
    → IsNextMarked l.memory l.marks (get_or l.partials k d)
