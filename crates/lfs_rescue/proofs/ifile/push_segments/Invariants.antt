use Rattle.std.proofs.Common.{◌≡◌, ◌++◌, take}
use Rattle.std.specs.List.{flat_map, zip}
use Rattle.lfs_ifile.specs.Layout.{segment_bytes}
use Rattle.lfs_rescue.proofs.ifile.push_segments.Given as goal

abbrev pub invariant-loop-segment : goal.invariant-loop-segment
invariant-loop-segment l =
    l.bytes.items ≡ l.initial.bytes.items ++ flat_map segment_bytes (take l.segment (zip l.live l.states))
