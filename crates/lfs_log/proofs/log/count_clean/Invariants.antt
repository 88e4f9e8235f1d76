use Rattle.std.proofs.Common.{◌≡◌}
use Rattle.lfs_log.specs.Parts.{clean_count}
use Rattle.lfs_log.proofs.log.count_clean.Given as goal

abbrev pub invariant-loop-segment : goal.invariant-loop-segment
invariant-loop-segment l = l.clean ≡ clean_count l.ifile l.segment
