use Rattle.lfs_fuse_talk.proofs.TalkLemmas.{IsLeft}
use Rattle.lfs_fuse_talk.proofs.talk.write.Given as goal

abbrev pub invariant-loop : goal.invariant-loop
invariant-loop g l = IsLeft l.fn.reply l.rest (g.W.Write.contents l.fn.writer) (g.W.Write.contents l.writer)
