use Rattle.std.proofs.Common.{refl, ◌∙◌}
use Rattle.lfs_fuse_talk.specs.Talking.{answering_of}
use Rattle.lfs_fuse_talk.proofs.TalkLemmas.{so_far_next, so_far_none}
use Rattle.lfs_fuse_talk.proofs.talk.answer_all.Goals as goal

pub loop-message-init : goal.loop-message-init
loop-message-init g c = record {
  so_far = so_far_none (answering_of g.M.Answerer.answers g.M.Answerer.rests) c.args.answerer.now c.args.pending.now
      (g.W.Write.contents c.args.writer.now);
  silent = λ well. (well, refl);
}

pub loop-message-preserved : goal.loop-message-preserved
loop-message-preserved g c = record {
  so_far = so_far_next (answering_of g.M.Answerer.answers g.M.Answerer.rests) c.args.answerer.now
      c.loop-message.answerer c.answer.new.answerer c.args.pending.now c.loop-message.rest.now
      c.in-Message.message.now c.in-Message.behind.now
      c.loop-message.is_whole c.in_ok-is_sent-in-Message.is_sent (g.W.Write.contents c.args.writer.now)
      (g.W.Write.contents c.loop-message.writer) (g.W.Write.contents c.answer.new.writer)
      c.loop-message.invariant.so_far c.in-Message.ensures c.in_ok-is_sent-in-Message.ensures.answered;
  silent = λ well.
      let step = c.in_ok-is_sent-in-Message.ensures.silent well in
      let before = c.loop-message.invariant.silent step.0 in
      (before.0, step.1 ∙ before.1);
}
