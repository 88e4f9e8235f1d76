use Rattle.std.proofs.Common.{ℕ, length}
use Rattle.lfs_settle.specs.Settled.{HaveTellers, IsUntold}
use Rattle.lfs_settle.proofs.transcripts.untold.Given as goal

abbrev pub invariant-loop-entry : goal.invariant-loop-entry
invariant-loop-entry l = record {
  told : HaveTellers l.transcripts l.rest → HaveTellers l.fn.transcripts l.fn.entries;
  untold : (session : ℕ) → IsUntold l.transcripts l.rest session → IsUntold l.fn.transcripts l.fn.entries session;
}

abbrev pub decreases-loop-entry : goal.decreases-loop-entry
decreases-loop-entry l = length l.rest
