use Rattle.std.proofs.Common.{ℕ, ◌-◌, ◌<◌, ◌≤◌, length, IsSome}
use Rattle.lfs_flatfiles.specs.FlatFiles.{file_in}
use Rattle.lfs_flatfiles.proofs.flat_files.first_free.Given as goal

abbrev pub invariant-loop-ino : goal.invariant-loop-ino
invariant-loop-ino l = record {
  from_start : l.start ≤ l.ino;
  within : l.ino ≤ length l.places;
  used : (k : ℕ) → l.start ≤ k → k < l.ino → IsSome (file_in l.places k);
}

abbrev pub decreases-loop-ino : goal.decreases-loop-ino
decreases-loop-ino l = length l.places - l.ino
