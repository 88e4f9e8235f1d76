use Rattle.std.proofs.Common.{[]}
use Rattle.lfs_sinks.specs.Refusals.{refusals_of}
use Rattle.lfs_audit.proofs.ThreadLemmas.{adds_setup, adds_transcript, adds_transcripts}
use Rattle.lfs_audit.proofs.threads.refusals_of.Goals as goal

pub loop-transcript-init : goal.loop-transcript-init
loop-transcript-init c =
    adds_setup c.none-refusals.result c.add_answers.new.self c.args.setup.now c.none-refusals.ensures
    c.add_answers.ensures

pub loop-transcript-preserved : goal.loop-transcript-preserved
loop-transcript-preserved c =
    adds_transcript (refusals_of []) c.loop-transcript.refusals c.add_answers-in-loop-transcript.new.self c.args.setup.now
    c.as_slice.result.now c.args.transcripts.now c.loop-transcript.transcript-index c.transcript-item.result
    c.loop-transcript-test.true (cc) c.as_slice.ensures.value c.loop-transcript.invariant c.add_answers-in-loop-transcript.ensures

pub returns : goal.returns
returns c =
    adds_transcripts c.loop-transcript.refusals c.args.setup.now c.args.transcripts.now
    c.loop-transcript.transcript-index c.loop-transcript-test.false c.loop-transcript.invariant
