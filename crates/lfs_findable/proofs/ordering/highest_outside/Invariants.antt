use Rattle.std.proofs.Common.{◌≡◌, ◌≢◌, ◌/◌, ◌<◌, ◌≤◌, ◌⊎◌, ℕ, get_or}
use Rattle.lfs_recovery.specs.declared.places.PartialSegment.{PartialSegment}
use Rattle.lfs_findable.specs.Judging.{HasOutside}
use Rattle.lfs_findable.proofs.ordering.highest_outside.Given as goal

-- the highest of those so far
abbrev pub invariant-loop-index : goal.invariant-loop-index
invariant-loop-index l = record {
  most : (k : ℕ) (d : PartialSegment) → k < l.index → (get_or l.partials k d).address / 64 ≢ l.segment
      → (get_or l.partials k d).serial ≤ l.highest;
  one : (l.highest ≡ 0) ⊎ HasOutside l.segment l.partials l.highest;
}
