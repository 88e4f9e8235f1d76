use Rattle.std.proofs.Common.{ℕ, length}
use Rattle.lfs_settle.specs.Settled.{AreTold, IsToldOtherwise}
use Rattle.lfs_settle.proofs.transcripts.told_otherwise.Given as goal

abbrev pub invariant-loop-transcript : goal.invariant-loop-transcript
invariant-loop-transcript l = record {
  told : AreTold l.is_full l.journal l.rest → AreTold l.fn.is_full l.fn.journal l.fn.transcripts;
  otherwise : (session : ℕ) → IsToldOtherwise l.is_full l.journal l.rest session
      → IsToldOtherwise l.fn.is_full l.fn.journal l.fn.transcripts session;
}

abbrev pub decreases-loop-transcript : goal.decreases-loop-transcript
decreases-loop-transcript l = length l.rest
