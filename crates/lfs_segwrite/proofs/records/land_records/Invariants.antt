use Rattle.std.proofs.Common.{length}
use Rattle.lfs_segwrite.proofs.RecordsLemmas.{IsRecording}
use Rattle.lfs_segwrite.proofs.records.land_records.Given as goal

abbrev pub invariant-loop-parts : goal.invariant-loop-parts
invariant-loop-parts l = IsRecording l.fn.parts l.initial.parts l.parts l.first l.address

abbrev pub decreases-loop-parts : goal.decreases-loop-parts
decreases-loop-parts l = length l.parts.waiting
