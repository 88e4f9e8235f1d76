use Rattle.std.proofs.Common.{◌≡◌, ◌*◌, ◌<◌, ℕ, false, get_or, length, true}
use Rattle.lfs_recovery.specs.declared.places.PartialSegment.{PartialSegment}
use Rattle.lfs_findable.specs.Judging.{BeginsAt}
use Rattle.lfs_findable.proofs.listing.marks_of.Given as goal

-- marks are where those so far begin, and nowhere but where one begins
abbrev pub invariant-loop-index : goal.invariant-loop-index
invariant-loop-index l = record {
  long : length l.marks.items ≡ l.memory.segments * 64;
  sound : (a : ℕ) → get_or l.marks.items a false ≡ true → BeginsAt l.partials a;
  marked : (k : ℕ) (d : PartialSegment) → k < l.index
      → get_or l.marks.items (get_or l.partials k d).address false ≡ true;
}
