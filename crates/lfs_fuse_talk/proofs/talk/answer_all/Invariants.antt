use Rattle.std.proofs.Common.{◌≡◌, true, length}
use Rattle.lfs_fuse_talk.specs.Talking.{answering_of}
use Rattle.lfs_fuse_talk.proofs.TalkLemmas.{SoFar}
use Rattle.lfs_fuse_talk.proofs.talk.answer_all.Given as goal

abbrev pub invariant-loop-message : goal.invariant-loop-message
invariant-loop-message g l = record {
  so_far : SoFar (answering_of g.M.Answerer.answers g.M.Answerer.rests) l.fn.answerer l.answerer l.fn.pending l.rest
      l.is_whole (g.W.Write.contents l.fn.writer) (g.W.Write.contents l.writer);
  silent : g.M.Answerer.is_well l.answerer ≡ true
      → (g.M.Answerer.is_well l.fn.answerer ≡ true) × (l.teller ≡ l.fn.teller);
}

abbrev pub decreases-loop-message : goal.decreases-loop-message
decreases-loop-message g l = length l.rest
