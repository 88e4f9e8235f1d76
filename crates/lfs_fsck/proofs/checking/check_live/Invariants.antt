use Rattle.std.proofs.Common.{◌<◌, ℕ}
use Rattle.lfs_fsck.specs.Checks.{IsLive}
use Rattle.lfs_fsck.proofs.checking.check_live.Given as goal

abbrev pub invariant-loop-segment : goal.invariant-loop-segment
invariant-loop-segment l = (s : ℕ) → s < l.segment → IsLive l.log s
