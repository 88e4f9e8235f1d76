use Rattle.std.proofs.Common.{◌↔◌, length}
use Rattle.lfs_settle.specs.Settled.{IsAmong}
use Rattle.lfs_settle.proofs.transcripts.is_among.Given as goal

abbrev pub invariant-loop-transcript : goal.invariant-loop-transcript
invariant-loop-transcript l = IsAmong l.session l.rest ↔ IsAmong l.fn.session l.fn.transcripts

abbrev pub decreases-loop-transcript : goal.decreases-loop-transcript
decreases-loop-transcript l = length l.rest
