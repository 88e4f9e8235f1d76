use Rattle.std.proofs.Common.{◌≡◌, ◌≤◌}
use Rattle.lfs_view.specs.SpaceText.{used_below}
use Rattle.lfs_view.proofs.space.used.Given as goal

abbrev pub invariant-loop-number : goal.invariant-loop-number
invariant-loop-number l = record {
  is : l.count ≡ used_below l.parts l.number;
  few : l.count ≤ l.number;
}
