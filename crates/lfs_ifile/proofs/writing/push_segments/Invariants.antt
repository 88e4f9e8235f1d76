use Rattle.std.proofs.Common.{◌≡◌, ◌++◌, take}
use Rattle.std.specs.List.{flat_map, zip}
use Rattle.lfs_ifile.specs.Layout.{segment_bytes}
use Rattle.lfs_ifile.proofs.writing.push_segments.Given as goal

abbrev pub invariant-loop-seg : goal.invariant-loop-seg
invariant-loop-seg l =
    l.bytes.items ≡ l.initial.bytes.items ++ flat_map segment_bytes (take l.seg (zip l.live l.states))
