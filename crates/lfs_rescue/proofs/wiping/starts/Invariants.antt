use Rattle.std.proofs.Common.{◌≡◌, ◌<◌, ℕ, get_or, length}
use Rattle.lfs_recovery.specs.Logs.{log_place}
use Rattle.lfs_rescue.proofs.wiping.starts.Given as goal

-- those so far are told
abbrev pub invariant-loop-segment : goal.invariant-loop-segment
invariant-loop-segment l = record {
  many : length l.starts.items ≡ l.segment;
  told : (s : ℕ) → s < l.segment → get_or l.starts.items s 0 ≡ log_place s;
}
