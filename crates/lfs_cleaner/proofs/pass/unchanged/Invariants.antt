use Rattle.std.proofs.Common.{◌≡◌, ◌+◌, ◌≤◌, ◌++◌, length}
use Rattle.std.specs.Iterator.Adapters.{zip_first, zip_second}
use Rattle.std.specs.Slice.Iter.{iter_rest}
use Rattle.lfs_cleaner.specs.Passing.{unchanged}
use Rattle.lfs_cleaner.proofs.pass.unchanged.Given as goal

abbrev pub invariant-loop-info : goal.invariant-loop-info
invariant-loop-info l = record {
  known : l.left ++ unchanged (iter_rest (zip_first l.info-iterator)) (iter_rest (zip_second l.info-iterator))
      ≡ unchanged l.asked l.present;
  few : length l.left + length (iter_rest (zip_first l.info-iterator)) ≤ length l.asked;
}
