use Rattle.std.proofs.Common.{◌≡◌, ◌+◌, drop}
use Rattle.lfs_segwrite.specs.Applying.{frames_of_all}
use Rattle.lfs_segwrite.proofs.applying.frames_of_all.Given as goal

abbrev pub invariant-loop-change : goal.invariant-loop-change
invariant-loop-change l = l.frames + frames_of_all (drop l.change-index l.changes) ≡ frames_of_all l.changes
