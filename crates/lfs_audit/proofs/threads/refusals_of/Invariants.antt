use Rattle.std.proofs.Common.{[], map, take}
use Rattle.std.specs.Global.{Vec}
use Rattle.lfs_types.specs.declared.answer.Answer.{Answer}
use Rattle.lfs_audit.specs.Threads.{answers_of}
use Rattle.lfs_sinks.specs.Refusals.{AddsUp, refusals_of}
use Rattle.lfs_audit.proofs.threads.refusals_of.Given as goal

abbrev pub invariant-loop-transcript : goal.invariant-loop-transcript
invariant-loop-transcript l =
    AddsUp (refusals_of []) l.refusals
    (answers_of l.setup (take l.transcript-index (map (λ (transcript : Vec Answer). transcript.items) l.transcripts)))
