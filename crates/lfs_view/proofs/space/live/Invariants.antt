use Rattle.std.proofs.Common.{◌≡◌, ◌≤◌, ◌*◌, ◌^◌}
use Rattle.lfs_view.specs.SpaceText.{live_below}
use Rattle.lfs_view.proofs.space.live.Given as goal

abbrev pub invariant-loop-segment : goal.invariant-loop-segment
invariant-loop-segment l = record {
  is : l.bytes ≡ live_below l.parts l.segment;
  few : l.bytes ≤ l.segment * 2 ^ 32;
}
