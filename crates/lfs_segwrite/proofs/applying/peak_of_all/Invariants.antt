use Rattle.std.proofs.Common.{◌≡◌, ◌+◌, ◌≤◌, drop, max}
use Rattle.lfs_segwrite.specs.Applying.{peak_of_all}
use Rattle.lfs_segwrite.proofs.applying.peak_of_all.Given as goal

abbrev pub invariant-loop-change : goal.invariant-loop-change
invariant-loop-change l = record {
  all : max l.peak (l.taken + peak_of_all (drop l.change-index l.changes)) ≡ peak_of_all l.changes;
  most : l.taken ≤ l.peak;
}
