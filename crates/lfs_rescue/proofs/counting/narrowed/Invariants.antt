use Rattle.std.proofs.Common.{◌≡◌, ◌<◌, ℕ, get_or, length}
use Rattle.lfs_rescue.proofs.counting.narrowed.Given as goal

-- those so far are the same
abbrev pub invariant-loop-segment : goal.invariant-loop-segment
invariant-loop-segment l = record {
  many : length l.live.items ≡ length l.counts;
  same : (s : ℕ) → s < l.segment → get_or l.live.items s 0 ≡ get_or l.counts s 0;
}
