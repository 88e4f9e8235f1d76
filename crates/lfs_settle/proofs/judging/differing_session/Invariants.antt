use Rattle.std.proofs.Common.{◌≡◌, ℕ, ◌+◌, ◌≤◌, ◌<◌, length, map}
use Rattle.std.specs.List.{slice_get}
use Rattle.lfs_settle.specs.Interleaving.{AgreesAt}
use Rattle.lfs_settle.proofs.judging.differing_session.Given as goal

abbrev pub invariant-loop-script : goal.invariant-loop-script
invariant-loop-script l = record {
  scripts : (i : ℕ) → slice_get l.asked i ≡ slice_get l.fn.scripts (l.settled + i);
  transcripts : (i : ℕ) → slice_get (map (λ t. t.items) l.answered) i
      ≡ slice_get (map (λ t. t.items) l.fn.transcripts) (l.settled + i);
  few : l.settled + length l.asked ≤ 8;
  agreed : (session : ℕ) → 1 ≤ session → session < l.settled + 1
      → AgreesAt l.is_full l.later l.fn.scripts (map (λ t. t.items) l.fn.transcripts) session;
}

abbrev pub decreases-loop-script : goal.decreases-loop-script
decreases-loop-script l = length l.asked
