use Rattle.std.proofs.Common.{arith}
use Rattle.std.proofs.lemmas.List.{length-take}
use Rattle.lfs_script.proofs.place.push_shown.Goals as goal

pub slice_bounds-told-end : goal.slice_bounds-told-end
slice_bounds-told-end c = rw length-take (omega arith)
