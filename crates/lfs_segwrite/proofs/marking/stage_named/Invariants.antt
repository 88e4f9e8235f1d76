use Rattle.std.proofs.Common.{take}
use Rattle.lfs_segwrite.specs.Marking.{StagesNamed}
use Rattle.lfs_segwrite.proofs.marking.stage_named.Given as goal

abbrev pub invariant-loop-info : goal.invariant-loop-info
invariant-loop-info l = StagesNamed (take l.info-index l.named) l.fn.parts l.parts
