use Rattle.lfs_audit.proofs.ThreadLemmas.{vectors_grow}
use Rattle.lfs_audit.proofs.threads.print_transcripts.Goals as goal

pub loop-index-preserved : goal.loop-index-preserved
loop-index-preserved g c =
    vectors_grow c.args.transcripts.now c.loop-index.index c.index-transcripts-index.result c.as_slice.result.now _ _ _
    c.loop-index-test.true (cc) c.as_slice.ensures.value
    c.loop-index.invariant c.in_ok-print_transcript.ensures.written
