use Rattle.std.proofs.lemmas.List.{take_rest}
use Rattle.lfs_fuse_talk.proofs.TalkLemmas.{left_less}
use Rattle.lfs_fuse_talk.proofs.talk.write.Goals as goal

pub loop-preserved : goal.loop-preserved
loop-preserved g c =
    left_less c.args.reply.now c.loop.rest.now (g.W.Write.contents c.args.writer.now)
    (g.W.Write.contents c.loop.writer) (g.W.Write.contents c.write_once.new.writer) c.in-Some.count _
    c.loop.invariant c.in-Some.ensures.1 (take_rest c.loop.rest.now c.in-Some.count)
