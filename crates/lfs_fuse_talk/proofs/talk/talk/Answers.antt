use Rattle.std.proofs.Common.{◌&&◌, refl, sym, subst, ◌∙◌}
use Rattle.std.proofs.lemmas.Result.{err_from_is_err_and}
use Rattle.lfs_fuse_wire.specs.declared.framing.Frame.TheVariants.{Bad}
use Rattle.lfs_fuse_talk.specs.Fronts.{HasRead}
use Rattle.lfs_fuse_talk.specs.declared.inbox.Reading.{Reading}
use Rattle.lfs_fuse_talk.specs.Inboxes.{unanswered}
use Rattle.lfs_fuse_talk.specs.Talking.{answering_of}
use Rattle.lfs_fuse_talk.proofs.TalkLemmas.{TalkedSoFar, talked_bad, talked_next, talked_none}
use Rattle.lfs_fuse_talk.proofs.talk.talk.Goals as goal

pub loop-init : goal.loop-init
loop-init g c = record {
  talked = talked_none (answering_of g.M.Answerer.answers g.M.Answerer.rests) c.args.answerer.now
      c.in-Ok.inbox.pending.items (g.R.Read.remaining c.args.reader.now) (g.W.Write.contents c.args.writer.now)
      c.in-Ok.ensures.empty;
  silent = λ well. (well, refl);
  formed = c.in-Ok.ensures.formed;
  old = c.in-Ok.ensures.old;
}

pub returns-in_err-answered-in-Bytes-clause-bad : goal.returns-in_err-answered-in-Bytes-clause-bad
returns-in_err-answered-in-Bytes-clause-bad g c =
    let exit = err_from_is_err_and c.from_residual.result c.from_residual.ensures.1 in
    let read = subst (λ (r : Reading). HasRead c.loop.inbox.pending.items (unanswered c.read.new.self)
    (g.R.Read.remaining c.loop.reader) (g.R.Read.remaining c.read.new.reader) r) c.in-Bytes.is
    c.in-Ok-read.ensures.read in
    rw (exit.1, exit.2)
    (λ is. let bad = c.in_err-answered-in-Bytes.ensures.bad is in
    talked_bad (answering_of g.M.Answerer.answers g.M.Answerer.rests) Bad c.args.answerer.now c.loop.answerer
    c.answer_all.new.answerer c.loop.inbox.pending.items c.unanswered-pending.result.now read.0 bad.0 c.loop.is_whole
    (g.R.Read.remaining c.args.reader.now) (g.R.Read.remaining c.loop.reader) (g.R.Read.remaining c.read.new.reader)
    (g.W.Write.contents c.args.writer.now) (g.W.Write.contents c.loop.writer)
    (g.W.Write.contents c.answer_all.new.writer)
    c.loop.invariant.talked (c.unanswered-pending.ensures ∙ read.1) read.2 bad.1)

pub loop-preserved : goal.loop-preserved
loop-preserved g c =
    let read = subst (λ (r : Reading). HasRead c.loop.inbox.pending.items (unanswered c.read.new.self)
    (g.R.Read.remaining c.loop.reader) (g.R.Read.remaining c.read.new.reader) r) c.in-Bytes.is
    c.in-Ok-read.ensures.read in
    record {
      talked = subst (λ bs. TalkedSoFar (answering_of g.M.Answerer.answers g.M.Answerer.rests) c.args.answerer.now
          c.answer_all.new.answerer bs
          (c.loop.is_whole && c.in_ok-answered-in-Bytes.answered.is_whole) (g.R.Read.remaining c.args.reader.now)
          (g.R.Read.remaining c.read.new.reader) (g.W.Write.contents c.args.writer.now)
          (g.W.Write.contents c.answer_all.new.writer)) (sym c.keep.ensures.kept)
          (talked_next (answering_of g.M.Answerer.answers g.M.Answerer.rests) c.args.answerer.now c.loop.answerer
          c.answer_all.new.answerer c.loop.inbox.pending.items c.unanswered-pending.result.now read.0
          c.in_ok-answered-in-Bytes.answered.behind.items c.loop.is_whole c.in_ok-answered-in-Bytes.answered.is_whole
          (g.R.Read.remaining c.args.reader.now) (g.R.Read.remaining c.loop.reader)
          (g.R.Read.remaining c.read.new.reader)
          (g.W.Write.contents c.args.writer.now) (g.W.Write.contents c.loop.writer)
          (g.W.Write.contents c.answer_all.new.writer)
          c.loop.invariant.talked (c.unanswered-pending.ensures ∙ read.1) read.2
          c.in_ok-answered-in-Bytes.ensures.answered);
      silent = λ well.
          let step = c.in_ok-answered-in-Bytes.ensures.silent well in
          let before = c.loop.invariant.silent step.0 in
          (before.0, step.1 ∙ before.1);
      formed = c.keep.ensures.formed;
      old = c.keep.ensures.old;
    }
