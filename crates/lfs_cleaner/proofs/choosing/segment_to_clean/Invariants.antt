use Rattle.lfs_cleaner.specs.Choosing.{IsBestBelow}
use Rattle.lfs_cleaner.proofs.choosing.segment_to_clean.Given as goal

abbrev pub invariant-loop-segment : goal.invariant-loop-segment
invariant-loop-segment l = IsBestBelow l.bytes l.segment l.best
