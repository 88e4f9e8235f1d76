use Rattle.lfs_audit.proofs.ThreadLemmas.{transcript_grows}
use Rattle.lfs_audit.proofs.threads.print_transcript.Goals as goal

pub loop-answer-preserved : goal.loop-answer-preserved
loop-answer-preserved g c =
    transcript_grows c.args.session c.args.answers.now c.loop-answer.answer-index c.answer-item.result _ _ _
    c.loop-answer.text.items c.append_answer.new.out.items c.loop-answer-test.true (cc)
    c.loop-answer.invariant c.in_ok-append_answer.ensures c.in_ok-write_full.ensures
