use Rattle.std.proofs.Common.{◌≡◌, ◌<◌, ℕ}
use Rattle.lfs_ifile.specs.declared.segment.SegState.TheVariants.{Active}
use Rattle.lfs_log.specs.Parts.{state_of}
use Rattle.lfs_log.proofs.log.is_active_alone.Given as goal

abbrev pub invariant-loop-segment : goal.invariant-loop-segment
invariant-loop-segment l = (s : ℕ) → s < l.segment → state_of l.ifile s ≡ Active → s ≡ l.active
