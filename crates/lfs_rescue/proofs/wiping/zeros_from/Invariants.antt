use Rattle.std.proofs.Common.{◌≡◌, ◌<◌, ℕ, get_or, length}
use Rattle.lfs_rescue.specs.Building.{IsZerosFrom}
use Rattle.lfs_rescue.proofs.wiping.zeros_from.Given as goal

-- those so far are told
abbrev pub invariant-loop-segment : goal.invariant-loop-segment
invariant-loop-segment l = record {
  many : length l.from.items ≡ l.segment;
  told : (s : ℕ) → s < l.segment → IsZerosFrom l.memory l.last l.live s (get_or l.from.items s 0);
}
