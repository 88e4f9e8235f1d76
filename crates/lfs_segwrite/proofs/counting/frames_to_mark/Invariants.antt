use Rattle.std.proofs.Common.{[], take}
use Rattle.std.specs.List.{flat_map}
use Rattle.lfs_segwrite.specs.Counting.{AddsKeys}
use Rattle.lfs_segwrite.specs.Marking.{keys_to_mark}
use Rattle.lfs_segwrite.proofs.counting.frames_to_mark.Given as goal

-- the keys on the ways to the blocks so far
abbrev pub invariant-loop-info : goal.invariant-loop-info
invariant-loop-info l = AddsKeys (flat_map keys_to_mark (take l.info-index l.named)) [] l.keys
