use Rattle.std.proofs.Common.{◌<◌, ℕ, get_or}
use Rattle.lfs_recovery.specs.declared.places.PartialSegment.{PartialSegment}
use Rattle.lfs_findable.specs.Judging.{IsInOrder}
use Rattle.lfs_findable.proofs.ordering.are_in_order.Given as goal

-- those so far are in order
abbrev pub invariant-loop-index : goal.invariant-loop-index
invariant-loop-index l = (k : ℕ) (d : PartialSegment) → k < l.index
    → IsInOrder l.active l.next l.highest (get_or l.partials k d)
